-- What a client's session becomes at its turn and when it takes a message: it stays the client's, and it has one receipt more
-- exactly if the client says that its call was carried out.
use Rattle.std.proofs.Common.{◌≡◌, ℕ, ◌+◌, ◌-◌, Bool, true, false, cond, eqb, List, [], ◌∷◌, ◌++◌, length, length-append, map, Option, None}
use Rattle.std.proofs.Common.{Some, IfSome, slice_get, refl, sym, ap, subst, ◌∙◌, append-nil, arith, ◌==◌, eq-eqb, ne_eqb}
use Rattle.rk_scripts.proofs.Words.{Call, Op, Said, Body, Message, accepting, asking, asking_by, fits_with, is_asked_here, taking}
use Rattle.rk_scripts.proofs.Words.{untouched, Session, call_lane, session_calling, World, replies_to, told_by, Taken, map-append}
use Rattle.std.proofs.Math.Seq.{get_or-append_seam}
use Rattle.std.proofs.lemmas.Option.{slice_get-get_or}
use Rattle.rk_types.specs.declared.call.Answer.{Answer}
use Rattle.rk_types.specs.declared.call.Outcome.{Outcome}
use Rattle.rk_types.specs.declared.history.Receipt.{Receipt}
use Rattle.rk_message.specs.declared.calls.Located.{Located}
use Rattle.rk_message.specs.declared.calls.Reply.{Reply}
use Rattle.rk_world.specs.Client.{Accepted, accepted_by, accepted_of, answer_accepted, done, has_call, ignoring, range_of, turn_by, turn_of}
use Rattle.rk_world.specs.Client.{with_range}
use Rattle.rk_cluster.specs.Acted.{last_receipt, reply_of, said_by, said_of}

-- a session is a client's own, and so is its outstanding call
pub record IsOwn (client : ℕ) (session : Session) : Type 0 where
  pub client_is : session.client ≡ client
  pub call_is : IfSome session.outstanding (λ call. call.client ≡ client)

-- a client's own session after something was said: that reports its new receipts, and no other client is told anything
pub record Tells (client : ℕ) (before after : Session) (said : List Said) : Type 0 where
  pub own : IsOwn client after
  pub told : map told_by after.receipts ≡ map told_by before.receipts ++ replies_to client said
  pub alone : (other : ℕ) → (client ≡ other → ⊥) → replies_to other said ≡ []

-- a session has the client, the receipts and the outstanding call that it had
record Keeps (before after : Session) : Type 0 where
  client_is : after.client ≡ before.client
  receipts_are : after.receipts ≡ before.receipts
  call_is : after.outstanding ≡ before.outstanding

-- if a session keeps them and nothing that is said is a reply, nothing is reported
tells_none : (client : ℕ) (before after : Session) (said : List Said) → IsOwn client before → Keeps before after
    → ((other : ℕ) → replies_to other said ≡ []) → Tells client before after said
tells_none client before after said own keeps none = record {
  own = record {
    client_is = keeps.client_is ∙ own.client_is;
    call_is = subst (λ (out : Option Call). IfSome out (λ call. call.client ≡ client)) (sym keeps.call_is) own.call_is;
  };
  told = ap (map told_by) keeps.receipts_are ∙ sym (append-nil (map told_by before.receipts))
      ∙ ap (λ (more : List Said). map told_by before.receipts ++ more) (sym (none client));
  alone = λ other apart. none other;
}

keeps_all : (session : Session) → Keeps session session
keeps_all session = record { client_is = refl; receipts_are = refl; call_is = refl }

-- so it is if the session does not change at all
quiet_tells : (client : ℕ) (session : Session) (said : List Said) → IsOwn client session → ((other : ℕ) → replies_to other said ≡ [])
    → Tells client session session said
quiet_tells client session said own none = tells_none client session session said own (keeps_all session) none

-- ---- calls

-- a client asks its next call, unless one is outstanding
pub calling_tells : (client : ℕ) (session : Session) (table : ℕ) (key : List ℕ) (op : Op) (busy : Option ℕ) → IsOwn client session
    → Tells client session (session_calling session table key op busy) []
calling_tells client session table key op busy own = grind (arith, append-nil, told_by, quiet_tells)

-- ---- turns

module _ (session : Session) (call : Call) where
  turn_keeps : (found : Option Located) → Keeps session (turn_by session call found).session
  turn_keeps found = grind arith

module _ (w : World) (session : Session) where
  turned_keeps : (call : Call) (out : Option Call) → Keeps session (asking_by w session call (turn_of session out)).session
  turned_keeps call None = keeps_all session
  turned_keeps call (Some outstanding) = turn_keeps session outstanding (range_of session outstanding)

  asking_keeps : (out : Option Call) → Keeps session (asking w session out).session
  asking_keeps out = grind (arith, keeps_all, fits_with, asking_by, untouched, turned_keeps)

  -- a client takes its turn
  pub asking_tells : (client : ℕ) → IsOwn client session → Tells client session (asking w session session.outstanding).session []
  asking_tells client own =
      tells_none client session (asking w session session.outstanding).session [] own (asking_keeps session.outstanding) (λ other. refl)

-- ---- answers

-- the last of receipts is the receipt that was put behind them
last_put : (receipts : List Receipt) (receipt : Receipt) → last_receipt (receipts ++ receipt ∷ []) ≡ Some receipt
last_put receipts receipt =
    let one_more : length (receipts ++ receipt ∷ []) ≡ length receipts + 1 = length-append receipts (receipt ∷ []) in
    ap (slice_get (receipts ++ receipt ∷ []))
    (let last : length (receipts ++ receipt ∷ []) - 1 ≡ length receipts = omega (arith, one_more) in last)
    ∙ slice_get-get_or (receipts ++ receipt ∷ []) (length receipts) receipt (omega (arith, one_more))
    ∙ ap Some (get_or-append_seam receipts receipt [] receipt)

module _ (client : ℕ) (session : Session) (call : Call) (own : IsOwn client session) (of_client : call.client ≡ client) where
  -- what the client says of what it took, with these receipts after it
  abbrev Said-of : Accepted → List Said
  Said-of accepted = said_of call accepted.session.receipts accepted.taken

  -- the reply that reports a receipt, as another client hears it
  heard : (other : ℕ) (receipt : Receipt) (b : Bool) → eqb call.client other ≡ b
      → replies_to other (Said.Reply call.client receipt.call.seq receipt.outcome ∷ [])
      ≡ cond b (Said.Reply call.client receipt.call.seq receipt.outcome ∷ []) []
  heard other receipt b is =
      ap (λ (test : Bool). cond test (Said.Reply call.client receipt.call.seq receipt.outcome ∷ []) []) is

  done_tells : (reply : Reply) (outcome : Outcome) → Tells client session (done session call reply outcome)
      (reply_of call.client (last_receipt (done session call reply outcome).receipts))
  done_tells reply outcome = grind (arith, last_put, map-append, told_by, heard, eq-eqb, ne_eqb)

  answered_tells : (reply : Reply) (answer : Answer)
      → Tells client session (answer_accepted session call reply answer).session (Said-of (answer_accepted session call reply answer))
  answered_tells reply (Answer.Done outcome) = done_tells reply outcome
  answered_tells reply (Answer.Moved tablet) = search tells_none
  answered_tells reply (Answer.NotYet key) = search quiet_tells

  by_tells : (body : Body) → Tells client session (accepted_by session call body).session (Said-of (accepted_by session call body))
  by_tells (Body.Located located) =
      elim (has_call call located) as
      (λ b.
      let accepted = cond b (record { session = with_range session (call_lane call) located; taken = Taken.Located }) (ignoring session) in
      Tells client session accepted.session (Said-of accepted)) [
        | true ↦ tells_none client session (with_range session (call_lane call) located) [] own
            (record { client_is = refl; receipts_are = refl; call_is = refl }) (λ other. refl)
        | false ↦ quiet_tells client session [] own (λ other. refl)
      ]
  by_tells (Body.Reply reply) =
      elim (reply.seq == call.seq) as
      (λ b.
      let accepted = cond b (answer_accepted session call reply reply.answer) (ignoring session) in
      Tells client session accepted.session (Said-of accepted)) [
        | true ↦ answered_tells reply reply.answer
        | false ↦ quiet_tells client session [] own (λ other. refl)
      ]
  by_tells body = quiet_tells client session [] own (λ other. refl)

module _ (w : World) (client : ℕ) (session : Session) (own : IsOwn client session) where
  of_tells : (out : Option Call) → IfSome out (λ call. call.client ≡ client) → (body : Body)
      → Tells client session (accepted_of session out body).session
      (said_by out (accepted_of session out body).session.receipts (Some (accepted_of session out body).taken))
  of_tells None of_client body = quiet_tells client session [] own (λ other. refl)
  of_tells (Some call) of_client body = by_tells client session call own of_client body

  nothing_tells : (out : Option Call) → Tells client session session (said_by out session.receipts None)
  nothing_tells None = quiet_tells client session [] own (λ other. refl)
  nothing_tells (Some call) = quiet_tells client session [] own (λ other. refl)

  ignored_tells : (out : Option Call) → Tells client session session (said_by out session.receipts (Some Taken.Ignored))
  ignored_tells None = quiet_tells client session [] own (λ other. refl)
  ignored_tells (Some call) = quiet_tells client session [] own (λ other. refl)

  -- a client takes what is found on the wire
  pub accepting_tells : (found : Option Message) → Tells client session (accepting w session found).session
      (said_by session.outstanding (accepting w session found).session.receipts (accepting w session found).seen.taken)
  accepting_tells found = grind (arith, nothing_tells, is_asked_here, taking, untouched, of_tells, ignored_tells)
