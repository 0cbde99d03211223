-- A client's attempt in a lane behind its lock, put together from what the smaller functions make.
use Rattle.rk_shared_lanes.proofs.Words.{arith, ◌≡◌, ◌≢◌, ⊎_elim, ℕ, true, false, not, List, Option, Some, None, Result, Ok, Err, refl, sym}
use Rattle.rk_shared_lanes.proofs.Words.{ap, subst, ◌∙◌, IfErr, IfOk, IfSome, get, Segments, accept, ask, Session, accept_refusal}
use Rattle.rk_shared_lanes.proofs.Words.{ask_refusal, StepError, Seen, Taken, LaneState, IsVisitOf, Comes, EndsAt, IsEvent, IsSending}
use Rattle.rk_shared_lanes.proofs.Words.{StopsAt, Short, is_answer, PassState}
use Rattle.std.proofs.Common.{◌==◌, eq-eqb, ne_eqb}
use Rattle.std.specs.Prelude.{OnErr, is_some}
use Rattle.rk_world.specs.declared.error.StepError.TheVariants as errors
use Rattle.rk_world.specs.declared.event.Event.TheVariants as events
use Rattle.rk_world.specs.declared.event.Taken.TheVariants as takes
use Rattle.rk_lane.specs.Visits.{IsRefusedFor}
use Rattle.rk_attempts.specs.Attempts.{heard, refused_by, visited_or}
use Rattle.rk_attempts.specs.Came.{IsAttempt}
use Rattle.rk_attempts.specs.Ends.{IsTake, IsTakenUpTo}
use Rattle.rk_attempts.specs.Wires.{is_to_client, numbers_with}
use Rattle.rk_attempts.specs.declared.attempt.Attempt.{Attempt}
use Rattle.rk_attempts.specs.declared.attempt.Short.TheVariants as shorts
use Rattle.rk_attempts.proofs.Attempting.{attempt_done, attempt_refused, attempt_short, nothing_seen, take_done, taken_none, taken_one}
use Rattle.rk_shared_lanes.proofs.Stepping.{memory_or}
use Rattle.rk_shared_lanes.proofs.Turned.{never_stops, running_there}

-- ---- what was sent

-- no message was sent, or one was
pub sent_none : (sent : ℕ) → sent ≡ 0 → (sent == 0) ≡ true
sent_none sent none = eq-eqb sent 0 none

pub sent_some : (sent : ℕ) → sent ≢ 0 → (sent == 0) ≡ false
sent_some sent some = ne_eqb sent 0 some

-- ---- refusals

-- what answers no call leaves the client waiting for it
unanswered : (taken : Option Taken) → heard taken ≡ None → not (is_answer taken) ≡ true
unanswered (Some takes.Done) none = absurd (cc none)
unanswered _ none = refl

-- a call that was counted still is if the client heard nothing of it
pub still_counted : (answer : Result Seen StepError) (old new : PassState) (taken : Option Taken) (attempt : Option Attempt) → old.counted ≡ true
    → IfOk answer (λ seen. new.counted ≡ not (is_answer seen.taken)) → OnErr answer (new ≡ old) → IfOk answer (λ seen. taken ≡ seen.taken)
    → attempt ≡ heard taken → attempt ≡ None → new.counted ≡ true
still_counted answer old new taken attempt counted counts same is says none = grind (arith, unanswered)

module _ {R : Type 0} (segments : R → Option Segments) where
  -- ---- one message

  -- a client took a message, or could take none
  pub record IsAccepted (old new : LaneState R) (session now : Session) (number : ℕ) (taken : Option Taken) : Type 0 where
    pub seen : Seen
    pub comes : Comes segments old new (λ w. visited_or w session (accept w number session)) (λ w. record { world = w; session = now; seen = seen })
    pub says : seen.taken ≡ taken

  pub accepted : (old new : LaneState R) (pass now : PassState) (number : ℕ) (answer : Result Seen StepError) (taken : Option Taken) → is_some old.running ≡ true
      → IfOk answer (λ seen. IsVisitOf (λ w. accept w number pass.session) old new now.session seen)
      → IfErr answer (λ e. e ≢ errors.NoMemory → IsRefusedFor (λ w. accept_refusal w number pass.session.client (get w.wire.messages number)) old e)
      → OnErr answer (new ≡ old) → OnErr answer (now ≡ pass) → IfOk answer (λ seen. taken ≡ seen.taken)
      → IfErr answer (λ e. (e ≢ errors.NoMemory) × (taken ≡ None)) → IsAccepted old new pass.session now.session number taken
  accepted old new pass now number (Ok seen) taken runs visited refused kept same is none =
      grind (arith, taken_one, pass.session, now.session)
  accepted old new pass now number (Err error) taken runs visited refused kept same is none =
      let there = running_there old.running runs in
      subst (λ (it : LaneState R). IsAccepted old it pass.session now.session number taken) (sym kept)
      (subst (λ (it : PassState). IsAccepted old old pass.session it.session number taken) (sym same)
      (record {
        seen = nothing_seen segments;
        comes = taken_none segments old there.0 pass.session number error there.1 (refused none.0);
        says = sym none.1;
      }))

  -- the lane is not spent by it
  pub accepted_runs : (old new : LaneState R) (pass now : PassState) (number : ℕ) (answer : Result Seen StepError) → is_some old.running ≡ true
      → IfOk answer (λ seen. IsVisitOf (λ w. accept w number pass.session) old new now.session seen) → OnErr answer (new ≡ old) → is_some new.running ≡ true
  accepted_runs old new pass now number (Ok seen) runs visited kept = ap is_some visited.is
  accepted_runs old new pass now number (Err error) runs visited kept = ap (λ (lane : LaneState R). is_some lane.running) kept ∙ runs

  -- the message was then forgotten
  pub take_said : (old middle new : LaneState R) (session now : Session) (number : ℕ) (taken : Option Taken) (attempt : Option Attempt)
      → IsAccepted old middle session now number taken → (worn : Option ℕ) × IsEvent segments middle new (events.Forget number) worn → attempt ≡ heard taken
      → IsTake segments old new session now number attempt
  take_said old middle new session now number taken attempt it forgets says =
      subst (IsTake segments old new session now number) (ap heard it.says ∙ sym says)
      (take_done segments old middle new session now number it.seen forgets.0 it.comes forgets.1)

  -- a message was forgotten, unless memory was wanting
  pub forgotten : {T : Type 0} (old new : LaneState R) (number : ℕ) (result : Result T Short) → ((worn : Option ℕ) → EndsAt result worn → IsEvent segments old new (events.Forget number) worn)
      → (result ≢ Err shorts.NoMemory) → (worn : Option ℕ) × IsEvent segments old new (events.Forget number) worn
  forgotten old new number (Ok x) came other = (None, came None refl)
  forgotten old new number (Err shorts.NoMemory) came other = absurd (other refl)
  forgotten old new number (Err (shorts.Worn at)) came other = (Some at, came (Some at) refl)

  -- ---- attempts

  -- an attempt that could not ask
  pub attempt_unasked : (old new : LaneState R) (pass now : PassState) (error : StepError) (result : Result Attempt Short) → is_some old.running ≡ true
      → (error ≢ errors.NoMemory → IsRefusedFor (λ w. ask_refusal w pass.session) old error) → new ≡ old → (error ≢ errors.NoMemory → now ≡ pass)
      → (error ≢ errors.NoMemory → result ≡ refused_by error) → (error ≡ errors.NoMemory → result ≡ Err shorts.NoMemory)
      → (worn : Option ℕ) → EndsAt result worn → IsAttempt segments old new pass.session now.session result
  attempt_unasked old new pass now error result runs refused kept same is memory worn ends =
      grind (arith, running_there, attempt_refused, memory_or)

  module _ (old middle : LaneState R) (session asked : Session) (seen : Seen) (asks : IsVisitOf (λ w. ask w session) old middle asked seen) where
    -- an attempt that was stopped once the client had asked
    pub attempt_stopped : (new : LaneState R) (short : Short) → ((worn : Option ℕ) → StopsAt short worn → IsSending segments middle new seen worn)
        → (worn : Option ℕ) → StopsAt short worn → IsAttempt segments old new session asked (Err short)
    attempt_stopped new shorts.NoMemory came worn stops = absurd stops
    attempt_stopped new (shorts.Worn at) came worn stops = attempt_short segments old middle session asked seen asks new worn at stops (came worn stops)

    -- an attempt that was not
    pub attempt_said : (sent new : LaneState R) (now : Session) (numbers : List ℕ) (result : Result Attempt Short) → IsSending segments middle sent seen None
        → IfSome sent.running (λ running. numbers ≡ numbers_with (is_to_client asked.client) running.wire.messages)
        → IfOk result (IsTakenUpTo segments sent new asked now numbers) → IfErr result (λ e. e ≡ shorts.NoMemory)
        → (worn : Option ℕ) → EndsAt result worn → IsAttempt segments old new session now result
    attempt_said sent new now numbers (Ok said) sends those takes memory worn ends =
        attempt_done segments old middle session asked seen asks sent new now numbers said sends those takes
    attempt_said sent new now numbers (Err short) sends those takes memory worn ends = absurd (never_stops short worn memory ends)
