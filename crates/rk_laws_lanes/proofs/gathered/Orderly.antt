-- A session stays orderly when its client asks a call, takes its turn, and takes an answer with a stamp above all that it has seen.
use Rattle.std.proofs.Common.{◌≡◌, ℕ, ◌<◌, ◌≤◌, true, List, [], ◌∷◌, Option, Some, None, length-append, sym, ap, ◌∙◌, subst, arith, IfSome}
use Rattle.std.proofs.Common.{max, All}
use Rattle.rk_inv_base.proofs.Words.{All-contains, All-push, All-weaker, get, Call, Op, Outcome, Placed, Receipt, Reply, Message, accepting}
use Rattle.rk_inv_base.proofs.Words.{asking, asking_by, fits_with, is_asked, ClientTurn, Session, call_lane, new_session, session_turn}
use Rattle.rk_inv_base.proofs.Words.{turn_of, asked_by, MayAct, World, LastCall, MayAccept, IsRecordAt, IsAfterSeen, view, IsSound}
use Rattle.rk_world.specs.Client.{done, receipt_of, with_next_call, with_range, without_range}
use Rattle.rk_world.specs.Refusals.{is_for}
use Rattle.rk_inv_base.proofs.calls.Accepted.{stands_there}
use Rattle.rk_runs.proofs.Below.{is_last_there, may_accept}
use Rattle.rk_runs.specs.history.Agreement.{waiting}
use Rattle.rk_runs.proofs.history.Receipts.{numbered_push, rising_push}
use Rattle.rk_runs.proofs.history.Taking.{accepting_taken}
use Rattle.rk_inv_wellformed.proofs.maps.Lists.{either_way}
use Rattle.rk_laws_lanes.specs.gathered.Gathered.{IsOrderly}

pub new_orderly : (client : ℕ) → IsOrderly client (new_session client)
new_orderly client = grind arith

module _ (client : ℕ) (session : Session) (orderly : IsOrderly client session) where
  -- ---- a call

  -- a session that has no call outstanding asks its next one
  pub next_orderly : (table : ℕ) (key : List ℕ) (op : Op) → session.outstanding ≡ None → IsOrderly client (with_next_call session table key op)
  next_orderly table key op none = grind arith

  -- ---- a turn

  -- what is kept of a session whose ranges or requests change
  pub ranged : (now : Session) → IsOrderly client (record session { requests = now.requests; ranges = now.ranges; sent_in = now.sent_in })
  ranged now = grind arith

  pub turn_orderly : (out : Option Call) (turned : ClientTurn) → turn_of session out ≡ Some turned → IsOrderly client turned.session
  turn_orderly out turned is = grind (arith, ranged, either_way)

  pub asking_orderly : (w : World) (out : Option Call) → IsOrderly client (asking w session out).session
  asking_orderly w None = orderly
  asking_orderly w (Some call) = grind (arith, either_way, fits_with, session_turn, asking_by, turn_orderly)

  -- ---- an answer

  pub done_orderly : (call : Call) (reply : Reply) (outcome : Outcome) → session.outstanding ≡ Some call → session.seen < reply.stamp
      → IsOrderly client (done session call reply outcome)
  done_orderly call reply outcome out later =
      let receipt : Receipt = receipt_of call reply outcome in
      let its : (call.client ≡ client) × (call.seq ≡ session.last) =
      subst (λ (o : Option Call). IfSome o (λ call. (call.client ≡ client) × (call.seq ≡ session.last))) out orderly.outstanding in
      let last = orderly.last in
      let one = ap waiting out in
      let seq = its.1 in
      let joined = length-append session.receipts (receipt ∷ []) in
      let below : All (λ other. other.stamp < receipt.stamp) session.receipts =
      All-weaker (λ (r : Receipt). r.stamp ≤ session.seen) (λ (r : Receipt). r.stamp < receipt.stamp)
      (λ r seen. omega (arith, seen, later)) session.receipts orderly.seen in
      record {
        client_is = orderly.client_is;
        receipts = record {
          numbered = numbered_push 1 session.receipts receipt orderly.receipts.numbered (omega (arith, seq, last, one));
          calls = All-push (λ (r : Receipt). r.call.client ≡ client) session.receipts receipt orderly.receipts.calls its.0;
        };
        last = omega (arith, last, one, joined);
        outstanding = tt;
        rising = rising_push 0 session.receipts receipt orderly.rising (omega (arith, later)) below;
        seen =
            All-push (λ (r : Receipt). r.stamp ≤ max session.seen reply.stamp) session.receipts receipt
            (All-weaker (λ (r : Receipt). r.stamp ≤ session.seen) (λ (r : Receipt). r.stamp ≤ max session.seen reply.stamp)
            (λ r seen. omega (arith, seen)) session.receipts orderly.seen)
            (omega arith);
      }

-- what a client takes of a message of a sound lane
module _ (client : ℕ) (w : World) (number : ℕ) (session : Session) (sound : IsSound w) (may : MayAct w.coordinator.masters session) (orderly : IsOrderly client session) where
  module _ (call : Call) (out : session.outstanding ≡ Some call) (asked : is_asked w.ledger session call ≡ true) (own : call.client ≡ session.client) where
    -- an answer has a stamp above all that its client had seen
    stamped : (reply : Reply) (outcome : Outcome) → reply.seq ≡ call.seq → IsRecordAt w.ledger.journal session.client reply outcome
        → session.seen < reply.stamp
    stamped reply outcome seq_is at =
        let last : LastCall = record { call = call; seen = session.seen } in
        let accepts : MayAccept (view w) reply.place = may_accept w number session call sound asked own reply outcome seq_is at in
        let both : Some accepts.placed ≡ Some at.placed = sym accepts.stands ∙ at.stands in
        let same : accepts.placed ≡ at.placed = cc both in
        let asked_last : asked_by w.ledger at.placed.call.client ≡ Some last =
        ap (asked_by w.ledger) at.client_is ∙ is_last_there w number session call sound asked own in
        let is : call ≡ at.placed.call =
        subst (λ (o : Option LastCall). IfSome o (λ (l : LastCall). l.call ≡ at.placed.call)) asked_last
        (subst (λ (placed : Placed). IfSome (asked_by w.ledger placed.call.client)
        (λ (l : LastCall). l.call ≡ placed.call)) same accepts.last) in
        let after =
        All-contains (λ (placed : Placed). IsAfterSeen
        (asked_by w.ledger placed.call.client) placed) w.ledger.journal at.placed sound.truth.seen
        (stands_there w.ledger.journal reply.place at.placed at.stands) in
        let above : session.seen < at.placed.stamp = subst (λ (o : Option LastCall). IsAfterSeen o at.placed) asked_last after is in
        let stamp = at.stamp_is in
        omega (arith, above, stamp)

  pub accepting_orderly : (message : Message) → get w.wire.messages number ≡ Some message → is_for session.client message.to ≡ true
      → IsOrderly client (accepting w session (Some message)).session
  accepting_orderly message on to =
      accepting_taken w number session message sound may on to (λ visited. IsOrderly client visited.session) orderly
      (λ call out asked own. record {
        ignores = λ body. orderly;
        ends = λ reply outcome seq_is at.
            done_orderly client session orderly call reply outcome out (stamped call out asked own reply outcome seq_is at);
        moves = λ reply tablet.
            ranged client session orderly (record (without_range session call) { requests = 0 });
        waits = λ reply key. orderly;
        locates = λ located. ranged client session orderly (with_range session (call_lane call) located);
      })
