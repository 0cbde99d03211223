-- A lane behind its lock, and a pass, stay so at a client's turn.
use Rattle.rk_shared_lanes.proofs.Words.{◌≡◌, ℕ, ◌+◌, Bool, true, false, cond, not, List, [], ◌∷◌, length, Option, Some, Result, Ok, refl}
use Rattle.rk_shared_lanes.proofs.Words.{sym, ap, subst, ◌∙◌, ⊎_elim, arith, IfSome, Segments, BackupLane, Call, Located, Visited, ask}
use Rattle.rk_shared_lanes.proofs.Words.{is_asked_here, untouched, Session, is_added, MayAct, ask_refusal, world_visited, World, StepError}
use Rattle.rk_shared_lanes.proofs.Words.{Seen, AreTold, IsSameLane, LaneState, Running, world_with, IsVisitOf, waiting, Counts}
use Rattle.rk_shared_lanes.proofs.Words.{lanes_visited, HasSameClients, accepted_count, IsGoodLane, IsOrderly, HasCountedCalls, IsKept}
use Rattle.rk_shared_lanes.proofs.Words.{IsPass, PassState, one_if}
use Rattle.std.specs.Prelude.{is_some}
use Rattle.std.proofs.lemmas.Bool.{and_parts}
use Rattle.rk_world.specs.Calls.{asking, fits}
use Rattle.rk_world.specs.Client.{turn_by}
use Rattle.rk_lane.specs.Visits.{MayHaveTurned}
use Rattle.rk_laws_lanes.proofs.Asks.{asked_once, turned_same}
use Rattle.rk_laws_lanes.proofs.Clients.{good_asks}
use Rattle.rk_laws_lanes.proofs.gathered.Counting.{ask_counted}
use Rattle.rk_laws_lanes.proofs.gathered.Orderly.{asking_orderly, turn_orderly}
use Rattle.rk_shared_lanes.specs.Passes.{Suits}
use Rattle.rk_shared_lanes.proofs.Making.{same_makes}
use Rattle.rk_shared_lanes.proofs.Standing.{kept_with, sound_on, stands_on}

-- a turn that was taken was not refused
asked_is : (w : World) (session : Session) (visited : Visited) → ask w session ≡ Ok visited → asking w session session.outstanding ≡ visited
asked_is w session visited is = grind (arith, ask_refusal)

-- what a turn counts in a lane that its session fits
pub record IsTurnCounted (w : World) (session : Session) (visited : Visited) : Type 0 where
  pub accepted : accepted_count visited.world.ledger ≡ accepted_count w.ledger
  pub asked : visited.world.ledger.asked ≡ cond (is_asked_here w session) w.ledger.asked (w.ledger.asked + 1)
  pub clients : HasSameClients w.ledger visited.world.ledger
  pub receipts : visited.session.receipts ≡ session.receipts
  pub outstanding : visited.session.outstanding ≡ session.outstanding
  pub client : visited.session.client ≡ session.client
  pub pending : is_some session.outstanding ≡ true

turn_counted : (w : World) (session : Session) (visited : Visited) → ask w session ≡ Ok visited → fits w session ≡ true → IsTurnCounted w session visited
turn_counted w session visited is fit = grind (arith, and_parts, is_added, asked_once, asked_is)

-- what a turn leaves of a session, even if it was refused for want of memory
pub record IsSameSession (session now : Session) : Type 0 where
  pub receipts : now.receipts ≡ session.receipts
  pub outstanding : now.outstanding ≡ session.outstanding
  pub client : now.client ≡ session.client
  pub last : now.last ≡ session.last
  pub orderly : IsOrderly session.client session → IsOrderly session.client now

-- a turn leaves how many calls a session made
turned_last : (session : Session) (call : Call) (found : Option Located) → (turn_by session call found).session.last ≡ session.last
turned_last session call found = grind arith

-- so does a turn in a lane
asked_last : (w : World) (session : Session) (call : Option Call) → session.outstanding ≡ call → (asking w session call).session.last ≡ session.last
asked_last w session call is = grind (arith, turned_last, untouched)

pub turned_or_not : (session now : Session) → MayHaveTurned session now → IsSameSession session now
turned_or_not session now turned = grind (arith, turned_same, turned_last, turn_orderly)

-- ---- the pass

-- the amount of a share to which one was added if a call was not counted before, and which counts it now
one_for : (here counted : Bool) (before : ℕ) → here ≡ counted → cond here before (before + 1) ≡ before + one_if (not counted)
one_for here counted before same = grind (arith, one_if)

made_for : (counted : Bool) (receipts : ℕ) → receipts + one_if counted + one_if (not counted) ≡ receipts + 1
made_for true receipts = omega arith
made_for false receipts = omega arith

module _ (tells : Type 0) (masters : ℕ) (makes : Call → Type 0) (pass : PassState) (now : Session) (same : IsSameSession pass.session now) (may : MayAct masters now) where
  now_orderly : IsOrderly pass.session.client pass.session → IsOrderly now.client now
  now_orderly orderly = subst (λ (client : ℕ). IsOrderly client now) (sym same.client) (same.orderly orderly)

  -- it has as many receipts and calls as before
  last_same : pass.session.last ≡ length pass.session.receipts + waiting pass.session.outstanding → now.last ≡ length now.receipts + waiting now.outstanding
  last_same is = grind (arith, waiting)

  -- it stays so if its call was not asked
  pub pass_kept : (got made : ℕ × ℕ) → IsPass tells masters makes pass got made → IsPass tells masters makes (record { session = now; counted = pass.counted }) got made
  pass_kept got made it = grind (arith, last_same, same_makes, one_if, now_orderly)

  -- and if it was asked, and counted
  pub pass_asked : (got made made_now : ℕ × ℕ) → IsPass tells masters makes pass got made → made_now.0 ≡ made.0 → made_now.1 ≡ made.1 + one_if (not pass.counted)
      → is_some pass.session.outstanding ≡ true → IsPass tells masters makes (record { session = now; counted = true }) got made_now
  pass_asked got made made_now it parts amount pending = grind (arith, last_same, same_makes, one_if, made_for, now_orderly)

-- ---- the lane

-- a good lane leads to a good one
good_asked : (masters number : ℕ) (w : World) (session : Session) (visited : Visited) → ask w session ≡ Ok visited → MayAct masters session
    → IsGoodLane masters number w → IsGoodLane masters number visited.world
good_asked masters number w session visited is may good =
    let Good : Result Visited StepError → Type 0 = λ made. IsGoodLane masters number (world_visited w made) in
    subst Good is (good_asks masters number w session good may)

module _ {R : Type 0} (segments : R → Option Segments) (faults : R → ℕ) (tells : Type 0) (masters backups : ℕ) (clients : List ℕ) (counts : Counts) (old new : LaneState R)
    (same : IsSameLane old new) (pass : PassState) (now : Session) (seen : Seen) (it : IsVisitOf (λ w. ask w pass.session) old new now seen) (suits : Suits (world_with old it.before []) pass) where
  -- what the turn counts, by the worlds without what backups store
  pub counted_here : IsTurnCounted (world_with old it.before []) pass.session (record { world = world_with new it.after []; session = now; seen = seen })
  counted_here =
      turn_counted (world_with old it.before []) pass.session (record { world = world_with new it.after []; session = now; seen = seen }) (it.visited []) suits.fits

  pub session_same : IsSameSession pass.session now
  session_same = record {
    receipts = counted_here.receipts;
    outstanding = counted_here.outstanding;
    client = counted_here.client;
    last =
        let w : World = world_with old it.before [] in
        subst (λ (visited : Visited). visited.session.last ≡ pass.session.last)
        (asked_is w pass.session (record { world = world_with new it.after []; session = now; seen = seen }) (it.visited []))
        (asked_last w pass.session pass.session.outstanding refl);
    orderly = λ orderly.
        let w : World = world_with old it.before [] in
        subst (λ (visited : Visited). IsOrderly pass.session.client visited.session)
        (asked_is w pass.session (record { world = world_with new it.after []; session = now; seen = seen }) (it.visited []))
        (asking_orderly pass.session.client pass.session orderly w pass.session.outstanding);
  }

  pub kept_asked : (accepted asked number asked_now : ℕ × ℕ) → MayAct masters pass.session → IsKept segments faults tells masters backups clients counts old accepted asked number
      → asked_now.0 ≡ asked.0 → asked_now.1 ≡ asked.1 + one_if (not pass.counted)
      → IsKept segments faults tells masters backups clients counts new accepted asked_now number
  kept_asked accepted asked number asked_now may kept parts amount =
      kept_with segments faults tells masters backups clients counts old new same accepted asked number accepted asked_now kept counted_here.clients
      (lanes_visited faults (old ∷ []) 0 old new refl (λ w. ask w pass.session) now (Ok seen) it tt) (
        parts ∙ kept.asked_is.0,
        amount ∙ ap (λ (n : ℕ). n + one_if (not pass.counted)) kept.asked_is.1
            ∙ sym (one_for (is_asked_here (world_with old it.before []) pass.session) pass.counted old.ledger.asked suits.counted) ∙ sym counted_here.asked,
      )
      kept.accepted_part (λ told. kept.accepted_is told ∙ sym counted_here.accepted)
      (λ told.
      let w : World = world_with old it.before [] in
      let Counted : Result Visited StepError → Type 0 = λ made. HasCountedCalls (world_visited w made).ledger in
      subst Counted (it.visited []) (ask_counted w pass.session (kept.counted told)))
      (λ told.
      sound_on segments old new same it.before it.after it.was it.is
      (λ stood.
      stands_on segments old new same it.before it.after stood.stored
      (subst (λ (backups : List (BackupLane R)). AreTold segments backups stood.stored) (sym it.backups) stood.told)
      (good_asked old.masters old.number (world_with old it.before stood.stored) pass.session
      (record { world = world_with new it.after stood.stored; session = now; seen = seen }) (it.visited stood.stored)
      (subst (λ (count : ℕ). MayAct count pass.session) (sym kept.masters_are) may) stood.good)) (kept.sound told))

-- a lane and a pass that a worker holds suit, said of what is in them
pub suits_in : {R : Type 0} (lane now : LaneState R) (pass pass_now : PassState) (running : Running) → lane ≡ now → pass ≡ pass_now → lane.running ≡ Some running
    → IfSome now.running (λ r. Suits (world_with now r []) pass_now) → Suits (world_with lane running []) pass
suits_in {R} lane now pass pass_now running same_lane same_pass runs suits = grind (arith, world_with)
