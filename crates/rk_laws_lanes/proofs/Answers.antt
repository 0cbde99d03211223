-- What an answer counts: an answer to a client's call accepts one more record, not accepted before, and gives the client one more receipt.
use Rattle.std.proofs.Common.{◌≡◌, ℕ, zero, suc, ◌+◌, ◌<◌, Bool, true, false, cond, List, [], ◌∷◌, Option, Some, None, length-append, refl}
use Rattle.std.proofs.Common.{sym, ap, subst, ◌∙◌, arith, Contains, IfSome, slice_get}
use Rattle.rk_inv_base.proofs.Words.{All-contains, sum_by-cons, get, Call, Outcome, Placed, Reply, Body, Message, Visited, accepting}
use Rattle.rk_inv_base.proofs.Words.{is_asked, is_asked_here, ledger_taken, taking, untouched, Session, accepted_at, as_accepted, asked_by}
use Rattle.rk_inv_base.proofs.Words.{MayAct, World, LastCall, IsAccepted, MayAccept, IsRecordAt, IsAfterSeen, view, IsSound}
use Rattle.std.specs.List.{count_by}
use Rattle.rk_world.specs.Client.{accepted_by, accepted_of, done, receipt_of}
use Rattle.rk_world.specs.Ledger.{with_accepted}
use Rattle.rk_world.specs.Refusals.{is_for}
use Rattle.rk_world.specs.declared.event.Taken.{Taken}
use Rattle.rk_runs.proofs.Below.{is_last_there, may_accept}
use Rattle.rk_inv_base.proofs.calls.Accepted.{stands_there}
use Rattle.rk_runs.proofs.history.Taking.{accepting_taken}
use Rattle.rk_laws_lanes.specs.Counts.{HasReceipts, HasSameClients, IsCounted, IsOneMore}
use Rattle.rk_laws_lanes.specs.GoodLane.{IsGoodLane}

-- ---- journals

abbrev weight : Placed → ℕ
weight placed = cond {A = ℕ} placed.accepted 1 0

-- once a record that was not accepted is, one more is counted
one_more : (journal : List Placed) (place : ℕ) (placed : Placed) → slice_get journal place ≡ Some placed → placed.accepted ≡ false
    → count_by (λ placed. placed.accepted) (accepted_at journal place (Some placed)) ≡ count_by (λ placed. placed.accepted) journal + 1
one_more [] place placed at none_yet = absurd (cc at)
one_more (first ∷ rest) zero placed at none_yet =
    let is : first ≡ placed = cc at in
    let now = sum_by-cons weight (as_accepted placed) rest in
    let before = sum_by-cons weight first rest in
    let none : weight first ≡ 0 = ap weight is ∙ ap (λ (b : Bool). cond {A = ℕ} b 1 0) none_yet in
    omega (arith, now, before, none)
one_more (first ∷ rest) (suc place) placed at none_yet =
    let later = one_more rest place placed at none_yet in
    let now = sum_by-cons weight first (accepted_at rest place (Some placed)) in
    let before = sum_by-cons weight first rest in
    omega (arith, later, now, before)

-- the record of a call of which none is accepted
is_open : (journal : List Placed) (placed : Placed) → Contains journal placed → (IsAccepted journal placed.call → ⊥) → placed.accepted ≡ false
is_open journal placed stands none = grind arith

-- ---- what a session makes of a message

module _ (w : World) (number : ℕ) (session : Session) (call : Call) (sound : IsSound w) (asked : is_asked w.ledger session call ≡ true) (own : call.client ≡ session.client) where
  -- the client's last call here, with what it had seen
  abbrev last : LastCall
  last = record { call = call; seen = session.seen }

  -- the answer to the call
  answered : (reply : Reply) (outcome : Outcome) → reply.seq ≡ call.seq → IsRecordAt w.ledger.journal session.client reply outcome
      → IsOneMore w.ledger (with_accepted w.ledger reply.place) session (done session call reply outcome)
  answered reply outcome seq_is at =
      let may : MayAccept (view w) reply.place = may_accept w number session call sound asked own reply outcome seq_is at in
      let both : Some may.placed ≡ Some at.placed = sym may.stands ∙ at.stands in
      let same : may.placed ≡ at.placed = cc both in
      let stands : Contains w.ledger.journal at.placed = stands_there w.ledger.journal reply.place at.placed at.stands in
      let First : Placed → Type 0 = λ placed. IsAccepted w.ledger.journal placed.call → ⊥ in
      let open_now : at.placed.accepted ≡ false = is_open w.ledger.journal at.placed stands (subst First same may.first) in
      let counted = one_more w.ledger.journal reply.place at.placed at.stands open_now in
      let asked_last : asked_by w.ledger at.placed.call.client ≡ Some last =
      ap (asked_by w.ledger) at.client_is ∙ is_last_there w number session call sound asked own in
      let Own : Placed → Type 0 = λ placed. IfSome (asked_by w.ledger placed.call.client) (λ (l : LastCall). l.call ≡ placed.call) in
      let OwnOf : Option LastCall → Type 0 = λ o. IfSome o (λ (l : LastCall). l.call ≡ at.placed.call) in
      let its_own : call ≡ at.placed.call = subst OwnOf asked_last (subst Own same may.last) in
      let After : Option LastCall → Type 0 = λ o. IsAfterSeen o at.placed in
      let after =
      All-contains (λ (placed : Placed). IsAfterSeen (asked_by w.ledger placed.call.client) placed) w.ledger.journal at.placed sound.truth.seen stands in
      let above : session.seen < at.placed.stamp = subst After asked_last after its_own in
      let stamp = at.stamp_is in
      record {
        accepted = grind (arith, count_by, accepted_at, w.ledger.journal, reply.place, at.stands);
        receipt = receipt_of call reply outcome;
        receipts = refl;
        later = omega (arith, above, stamp);
      }

-- ---- what a client takes of a message of a good lane

module _ (masters lane : ℕ) (w : World) (number : ℕ) (session : Session) (message : Message) (good : IsGoodLane masters lane w) (may : MayAct masters session) (on : get w.wire.messages number ≡ Some message) (to : is_for session.client message.to ≡ true) where
  pub answer_counted : let visited = accepting w session (Some message) in IsCounted w.ledger visited.world.ledger session visited.session visited.seen.taken
  answer_counted = grind (arith, accepting_taken, answered, ledger_taken)

-- ---- what a client takes of any message

module _ (session : Session) (call : Call) where
  receipts_by : (body : Body) → let accepted = accepted_by session call body in HasReceipts session accepted.session (Some accepted.taken)
  receipts_by body = grind (arith, length-append)

receipts_of : (session : Session) (out : Option Call) (body : Body) → let accepted = accepted_of session out body in HasReceipts session accepted.session (Some accepted.taken)
receipts_of session None body = (refl, refl)
receipts_of session (Some call) body = receipts_by session call body

module _ (w : World) (session : Session) (message : Message) where
  abbrev tried : Bool → Visited
  tried here = cond here (taking w session message.body) (untouched w session (Some Taken.Ignored))

  pub answer_receipts : let visited = accepting w session (Some message) in HasReceipts session visited.session visited.seen.taken
  answer_receipts = grind (arith, is_asked_here, receipts_of)

  same : (here : Bool) → ((tried here).world.ledger.asked ≡ w.ledger.asked) × HasSameClients w.ledger (tried here).world.ledger
  same here = grind arith

  pub answer_asked : (accepting w session (Some message)).world.ledger.asked ≡ w.ledger.asked
  answer_asked = (same (is_asked_here w session)).0

  pub answer_clients : HasSameClients w.ledger (accepting w session (Some message)).world.ledger
  answer_clients = (same (is_asked_here w session)).1
