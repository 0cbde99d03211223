-- A client with an outstanding call sends one message on its turn, if that is not refused; and it is refused only if the lane is worn.
use Rattle.std.proofs.Common.{◌≡◌, ◌+◌, ◌<◌, ℕ, Bool, true, false, not, Option, Some, length, refl, ap, subst, ◌∙◌, arith, Contains, IfSome}
use Rattle.std.proofs.Common.{bytes_eq, nat_lt, eq-eqb, lt-ltb, Err, Ok}
use Rattle.rk_inv_base.proofs.Words.{and_from, All-contains, bytes_eq-Decides, Call, Placed, Answered, fits_with, is_call, is_last, Session}
use Rattle.rk_inv_base.proofs.Words.{call_lane, Cluster, lane_at, session_at, is_accepted, asked_by, World, LastCall, IsAccepted}
use Rattle.rk_inv_base.proofs.Words.{IsLastCall, Visited, ask, ask_by, asking, asking_by, untouched, session_turn, turn_of, is_added}
use Rattle.rk_inv_base.proofs.Words.{ask_refusal, where_true, worn, StepError}
use Rattle.rk_world.specs.Calls.{is_next}
use Rattle.rk_inv_lanes.proofs.Below.{accepted_found, found_accepted}
use Rattle.rk_runs.specs.history.Agreement.{Agrees, IsLastKnown, IsOutstanding, IsToldBy}
use Rattle.rk_runs.proofs.history.Clusters.{IsGood, IsGoodLane, ledgers_of}
use Rattle.rk_runs.proofs.history.Receipts.{seqs_within}
use Rattle.rk_runs.specs.duties.Worn.{IsWornFor}

-- The outstanding call of a client fits its lane: it was asked there last, or it comes next.

-- ---- a call is tested to be itself

-- the last call is this call
last_same : (call : Call) (session : Session) (last : LastCall) → IsOutstanding session last → session.outstanding ≡ Some call
    → is_last call session.seen (Some last) ≡ true
last_same call session last is out = grind (arith, and_from, is_call, eq-eqb, bytes_eq, bytes_eq-Decides)

module _ (Steady : World → Type 0) (masters : ℕ) (cluster : Cluster) (good : IsGood Steady masters cluster) (lane client : ℕ) (within : lane < length cluster.lanes) (call : Call) (out : (session_at cluster client).outstanding ≡ Some call) (here : call_lane call ≡ lane) where
  abbrev w : World
  w = lane_at cluster lane

  abbrev session : Session
  session = session_at cluster client

  agrees : Agrees (ledgers_of cluster) client session
  agrees = good.agree client

  lane_good : IsGoodLane Steady masters lane w
  lane_good = good.lanes lane within

  -- the call comes after all that were answered
  seq_is : call.seq ≡ length session.receipts + 1
  seq_is = grind (arith, agrees)

  -- so it comes after each call of its client whose record is accepted
  accepted_before : (placed : Placed) → Contains w.ledger.journal placed → placed.accepted ≡ true → placed.call.client ≡ client → placed.call.seq < call.seq
  accepted_before placed stands accepted own =
      let told : IsToldBy session.receipts lane placed =
      All-contains (λ (p : Placed). p.accepted ≡ true → p.call.client ≡ client → IsToldBy session.receipts lane p) w.ledger.journal placed
      (agrees.told lane) stands accepted own in
      let seqs = seqs_within 1 session.receipts agrees.numbered told.receipt told.stands in
      let same : told.receipt.call.seq ≡ placed.call.seq = ap (λ (answered : Answered). answered.call.seq) told.tells in
      omega (arith, seqs.1, same, seq_is)

  -- and has no accepted record itself
  not_accepted : not (is_accepted w.ledger.journal session.client call.seq) ≡ true
  not_accepted = go (is_accepted w.ledger.journal session.client call.seq) refl
    where
      go : (found : Bool) → is_accepted w.ledger.journal session.client call.seq ≡ found → not found ≡ true
      go false is = refl
      go true is =
          let it = found_accepted w.ledger.journal session.client call.seq is in
          absurd (omega (arith, accepted_before it.placed it.stands it.accepted (it.client_is ∙ agrees.own), it.seq_is))

  -- a lane whose last call of the client is accepted takes the call
  next_after : (last : LastCall) → IsLastCall w.base w.lane session.client last → IsAccepted w.ledger.journal last.call → is_next w.ledger session call (Some last) ≡ true
  next_after last is accepted =
      let own : accepted.placed.call.client ≡ client = ap (λ (c : Call). c.client) accepted.call_is ∙ is.own ∙ agrees.own in
      let seq : accepted.placed.call.seq ≡ last.call.seq = ap (λ (c : Call). c.seq) accepted.call_is in
      let before : last.call.seq < call.seq = omega (arith, accepted_before accepted.placed accepted.stands accepted.accepted own, seq) in
      and_from (nat_lt last.call.seq call.seq) _ (lt-ltb last.call.seq call.seq before)
      (subst (λ (c : ℕ). is_accepted w.ledger.journal c last.call.seq ≡ true) is.own (accepted_found w.ledger.journal last.call accepted))

  fits_last : (last : Option LastCall) → asked_by w.ledger session.client ≡ last → IsLastKnown w.ledger.journal session last → IfSome last (IsLastCall w.base w.lane session.client)
      → fits_with w session call ≡ true
  fits_last last is known own =
      grind (arith, next_after, last_same, not_accepted, eq-eqb)

  pub fits : fits_with w session call ≡ true
  fits = grind (arith, fits_last, asked_by, agrees, lane_good)

-- ---- a session that fits a lane

module _ (w : World) (session : Session) (call : Call) (out : session.outstanding ≡ Some call) (fitting : fits_with w session call ≡ true) where
  asking_sends : (asking w session (Some call)).world.wire.sent ≡ w.wire.sent + 1
  asking_sends = grind (arith, fits_with, session_turn, turn_of, asking_by, untouched)

-- ---- in a cluster

module _ (Steady : World → Type 0) (masters : ℕ) (cluster : Cluster) (good : IsGood Steady masters cluster) (lane client : ℕ) where
  pub client_sends : lane < length cluster.lanes → (call : Call) → (session_at cluster client).outstanding ≡ Some call → call_lane call ≡ lane → (visited : Visited)
      → ask (lane_at cluster lane) (session_at cluster client) ≡ Ok visited → visited.world.wire.sent ≡ (lane_at cluster lane).wire.sent + 1
  client_sends within call out here visited is = grind (arith, lane_at, session_at, fits, ask_refusal, ask_by, asking, asking_sends)

  pub client_worn : is_added (lane_at cluster lane).ledger client ≡ true → (error : StepError)
      → ask (lane_at cluster lane) (session_at cluster client) ≡ Err error → IsWornFor (lane_at cluster lane) (session_at cluster client) error
  client_worn added error refused = grind (arith, lane_at, session_at, is_added, worn, ask_by, where_true)
