-- A client's attempt in a lane, put together from its events.
use Rattle.std.proofs.Common.{◌≡◌, ◌<◌, ◌≤◌, ◌==◌, ℕ, zero, suc, ◌+◌, Bool, true, false, cond, List, [], ◌∷◌, drop, length, Option, Some, None, Ok, Err, refl, sym, ap, subst, ◌∙◌, arith}
use Rattle.std.specs.Prelude.{IfSome, IsSomeAnd, slice_index_or}
use Rattle.rk_types.specs.NumberMap.{get}
use Rattle.rk_outside.specs.Segments.{Segments}
use Rattle.rk_world.specs.Backup.{Called, Gave}
use Rattle.rk_world.specs.Calls.{Visited, accept, ask, ask_by}
use Rattle.rk_world.specs.Client.{Session}
use Rattle.rk_world.specs.Refusals.{accept_refusal, ask_refusal}
use Rattle.rk_world.specs.World.{World}
use Rattle.rk_world.specs.declared.error.StepError.{StepError}
use Rattle.rk_world.specs.declared.event.Event.TheVariants as events
use Rattle.rk_world.specs.declared.event.Seen.{Seen}
use Rattle.rk_lane.specs.LaneState.{LaneState, Running, world_with}
use Rattle.rk_lane.specs.Visits.{IsRefusedFor, IsVisitOf}
use Rattle.rk_attempts.specs.Attempts.{Attempted, attempt_by, attempt_on, ends_or, going_on, heard, refused_by, sent_on, taking_all, taking_by, took, visited_or}
use Rattle.rk_attempts.specs.Came.{Comes, IsAttempt, has_come}
use Rattle.rk_attempts.specs.Ends.{IsEvent, IsHanded, IsSending, IsTake, IsTakenUpTo}
use Rattle.rk_attempts.specs.Progress.{Progress, came, handed, started}
use Rattle.rk_attempts.specs.Wires.{is_to_client, numbers_with}
use Rattle.rk_attempts.specs.declared.attempt.Attempt.{Attempt}
use Rattle.rk_attempts.specs.declared.attempt.Attempt.TheVariants as attempts
use Rattle.rk_attempts.specs.declared.attempt.Short.TheVariants as shorts
use Rattle.rk_attempts.proofs.Coming.{came_with, comes_as, comes_nowhere, comes_then, comes_visit}

-- what is left of a list begins with the next element
drop_next : {X : Type 0} (xs : List X) (place : ℕ) (d : X) → place < length xs → drop place xs ≡ slice_index_or xs place d ∷ drop (suc place) xs
drop_next [] place d within = absurd (omega (arith, within))
drop_next (x ∷ xs) zero d within = refl
drop_next (x ∷ xs) (suc place) d within = drop_next xs place d (omega (arith, within))

-- nothing is left of it in the end
drop_past : {X : Type 0} (xs : List X) (place : ℕ) → length xs ≤ place → drop place xs ≡ []
drop_past [] zero past = refl
drop_past [] (suc place) past = refl
drop_past (x ∷ xs) zero past = absurd (omega (arith, past))
drop_past (x ∷ xs) (suc place) past = drop_past xs place (omega (arith, past))

module _ {R : Type 0} (segments : R → Option Segments) where
  -- ---- what was sent

  abbrev sent_by : World → Seen → Called → Bool → Progress
  sent_by w seen called nothing = cond nothing (started w) (handed (started w) seen.first called)

  pub sending_none : (old : LaneState R) (running : Running) (seen : Seen) → old.running ≡ Some running → (seen.sent == 0) ≡ true → IsSending segments old old seen None
  sending_none old running seen runs none = record {
    called = Gave None;
    may = tt;
    comes =
        comes_as segments old old started started (λ w. sent_on w seen (Gave None)) (has_come None) (comes_nowhere segments old running started runs)
        (λ w v of_old of_new one. ap (sent_by w seen (Gave None)) none ∙ one);
  }

  pub sending_one : (old new : LaneState R) (seen : Seen) (worn : Option ℕ) → (seen.sent == 0) ≡ false → IsHanded segments old new seen.first worn → IsSending segments old new seen worn
  sending_one old new seen worn some it = grind (arith, comes_as)

  -- ---- one message that is taken

  module _ (old middle new : LaneState R) (session now : Session) (number : ℕ) (seen : Seen) (worn : Option ℕ)
      (taken : Comes segments old middle (λ w. visited_or w session (accept w number session)) (λ w. record { world = w; session = now; seen = seen }))
      (forgets : IsEvent segments middle new (events.Forget number) worn) where
    pub take_done : IsTake segments old new session now number (heard seen.taken)
    take_done = record {
      seen = seen;
      comes =
          comes_then segments old middle new (λ w. visited_or w session (accept w number session)) (λ w. record { world = w; session = now; seen = seen })
          (λ w. came (started w) (events.Forget number) forgets.called) (has_come worn) (λ w. took w session number) (λ w. record { world = w; session = now; seen = seen })
          taken forgets.comes
          (λ w v u of_old of_middle of_new one two.
          ap (λ (visited : Visited). record visited { world = (came (started visited.world) (events.Forget number) (Gave None)).world }) one
          ∙ ap (λ (p : Progress). let visited : Visited = record { world = p.world; session = now; seen = seen } in visited)
          (came_with segments v (events.Forget number) (Gave None) forgets.called refl ∙ two));
      says = refl;
    }

  -- it was taken
  pub taken_one : (old middle : LaneState R) (session now : Session) (number : ℕ) (seen : Seen) → IsVisitOf (λ w. accept w number session) old middle now seen
      → Comes segments old middle (λ w. visited_or w session (accept w number session)) (λ w. record { world = w; session = now; seen = seen })
  taken_one old middle session now number seen it = grind (arith, comes_as, comes_visit)

  -- what a client saw that could take nothing
  abbrev pub nothing_seen : Seen
  nothing_seen = record { first = 0; sent = 0; lost = false; taken = None }

  -- it was refused
  pub taken_none : (old : LaneState R) (running : Running) (session : Session) (number : ℕ) (error : StepError) → old.running ≡ Some running
      → IsRefusedFor (λ w. accept_refusal w number session.client (get w.wire.messages number)) old error
      → Comes segments old old (λ w. visited_or w session (accept w number session)) (λ w. record { world = w; session = session; seen = nothing_seen })
  taken_none old running session number error runs refused = grind (arith, comes_as, comes_nowhere)

  -- ---- messages that are taken, one after the other

  -- a client took some of these messages, and none of them said what became of its call
  abbrev pub IsTaking : LaneState R → LaneState R → Session → Session → List ℕ → ℕ → Type 0
  IsTaking old new session now numbers place =
      Comes segments old new (λ w. taking_all w session numbers) (λ w. taking_all w now (drop place numbers))

  pub taking_begins : (lane : LaneState R) (running : Running) (session : Session) (numbers : List ℕ) → lane.running ≡ Some running
      → IsTaking lane lane session session numbers 0
  taking_begins lane running session numbers runs = comes_nowhere segments lane running (λ w. taking_all w session numbers) runs

  -- what is made of the messages that are left, by what is heard of the next
  abbrev made_by : Visited → List ℕ → Option Attempt → Attempted
  made_by visited later attempt = ends_or visited (taking_all visited.world visited.session later) attempt

  module _ (old middle new : LaneState R) (session between now : Session) (numbers : List ℕ) (place : ℕ) (attempt : Option Attempt)
      (before : IsTaking old middle session between numbers place) (within : place < length numbers) (d : ℕ)
      (it : IsTake segments middle new between now (slice_index_or numbers place d) attempt) where
    next_made : (w v u : World) → taking_all w session numbers ≡ taking_all v between (drop place numbers)
        → took v between (slice_index_or numbers place d) ≡ record { world = u; session = now; seen = it.seen }
        → taking_all w session numbers ≡ made_by (record { world = u; session = now; seen = it.seen }) (drop (suc place) numbers) attempt
    next_made w v u one two =
        one ∙ ap (taking_all v between) (drop_next numbers place d within)
        ∙ ap (λ (visited : Visited). made_by visited (drop (suc place) numbers) (heard visited.seen.taken)) two
        ∙ ap (made_by (record { world = u; session = now; seen = it.seen }) (drop (suc place) numbers)) it.says

    pub taking_ends : (said : Attempt) → attempt ≡ Some said → IsTakenUpTo segments old new session now numbers said
    taking_ends said is =
        comes_then segments old middle new (λ w. taking_all w session numbers) (λ w. taking_all w between (drop place numbers))
        (λ w. took w between (slice_index_or numbers place d)) (λ w. record { world = w; session = now; seen = it.seen })
        (λ w. taking_all w session numbers) (λ w. record { world = w; session = now; answer = Ok said }) before it.comes
        (λ w v u of_old of_middle of_new one two.
        next_made w v u one two ∙ ap (made_by (record { world = u; session = now; seen = it.seen }) (drop (suc place) numbers)) is)

    pub taking_more : attempt ≡ None → IsTaking old new session now numbers (place + 1)
    taking_more is =
        let next : suc place ≡ place + 1 = omega arith in
        subst (IsTaking old new session now numbers) next
        (comes_then segments old middle new (λ w. taking_all w session numbers) (λ w. taking_all w between (drop place numbers))
        (λ w. took w between (slice_index_or numbers place d)) (λ w. record { world = w; session = now; seen = it.seen })
        (λ w. taking_all w session numbers) (λ w. taking_all w now (drop (suc place) numbers)) before it.comes
        (λ w v u of_old of_middle of_new one two.
        next_made w v u one two ∙ ap (made_by (record { world = u; session = now; seen = it.seen }) (drop (suc place) numbers)) is))

  pub taking_waits : (old new : LaneState R) (session now : Session) (numbers : List ℕ) (place : ℕ) → length numbers ≤ place → IsTaking old new session now numbers place
      → IsTakenUpTo segments old new session now numbers attempts.Waiting
  taking_waits old new session now numbers place past it = grind (arith, comes_as, drop_past)

  -- ---- attempts

  module _ (old middle : LaneState R) (session asked : Session) (seen : Seen) (asks : IsVisitOf (λ w. ask w session) old middle asked seen) where
    pub attempt_short : (new : LaneState R) (worn : Option ℕ) (at : ℕ) → worn ≡ Some at → IsSending segments middle new seen worn
        → IsAttempt segments old new session asked (Err (shorts.Worn at))
    attempt_short new worn at is sends = record {
      called = sends.called;
      may = sends.may;
      comes =
          comes_then segments old middle new (λ w. ask w session) (λ w. Ok (record { world = w; session = asked; seen = seen }))
          (λ w. sent_on w seen sends.called) (has_come worn) (λ w. attempt_on w session sends.called) (λ w. record { world = w; session = asked; answer = Err (shorts.Worn at) })
          (comes_visit segments (λ w. ask w session) old middle asked seen asks) sends.comes
          (λ w v u of_old of_middle of_new one two.
          ap (attempt_by w session sends.called) one ∙ ap (going_on asked) two ∙ ap (taking_by u asked) is);
    }

    pub attempt_done : (sent new : LaneState R) (now : Session) (numbers : List ℕ) (said : Attempt) → IsSending segments middle sent seen None
        → IfSome sent.running (λ running. numbers ≡ numbers_with (is_to_client asked.client) running.wire.messages)
        → IsTakenUpTo segments sent new asked now numbers said → IsAttempt segments old new session now (Ok said)
    attempt_done sent new now numbers said sends those takes =
        let both =
        comes_then segments old middle sent (λ w. ask w session) (λ w. Ok (record { world = w; session = asked; seen = seen }))
        (λ w. sent_on w seen sends.called) (has_come None) (λ w. attempt_on w session sends.called) (λ w. taking_all w asked numbers)
        (comes_visit segments (λ w. ask w session) old middle asked seen asks) sends.comes
        (λ w v u of_old of_middle of_sent one two.
        let is : numbers ≡ numbers_with (is_to_client asked.client) u.wire.messages =
        subst (λ (o : Option Running). IfSome o (λ running. numbers ≡ numbers_with (is_to_client asked.client) running.wire.messages)) of_sent.runs those
        ∙ ap (λ (it : World). numbers_with (is_to_client asked.client) it.wire.messages) (sym of_sent.is) in
        ap (attempt_by w session sends.called) one ∙ ap (going_on asked) two ∙ ap (taking_all u asked) (sym is)) in
        record {
          called = sends.called;
          may = sends.may;
          comes =
              comes_then segments old sent new (λ w. attempt_on w session sends.called) (λ w. taking_all w asked numbers)
              (λ w. taking_all w asked numbers) (λ w. record { world = w; session = now; answer = Ok said })
              (λ w. attempt_on w session sends.called) (λ w. record { world = w; session = now; answer = Ok said }) both takes
              (λ w v u of_old of_sent of_new one two. one ∙ two);
        }

  -- an attempt that could not ask
  pub attempt_refused : (old : LaneState R) (running : Running) (session : Session) (error : StepError) → old.running ≡ Some running
      → IsRefusedFor (λ w. ask_refusal w session) old error → IsAttempt segments old old session session (refused_by error)
  attempt_refused old running session error runs refused = record {
    called = Gave None;
    may = tt;
    comes =
        comes_as segments old old started started (λ w. attempt_on w session (Gave None)) (λ w. record { world = w; session = session; answer = refused_by error })
        (comes_nowhere segments old running started runs)
        (λ w v of_old of_new one.
        let cause : ask_refusal w session ≡ Some error =
        ap (λ (it : World). ask_refusal it session) of_old.is
        ∙ subst (λ (o : Option Running). IsSomeAnd o (λ it_runs. ask_refusal (world_with old it_runs []) session ≡ Some error)) of_old.runs refused in
        ap (λ (o : Option StepError). attempt_by w session (Gave None) (ask_by w session o)) cause
        ∙ ap (λ (p : Progress). let made : Attempted = record { world = p.world; session = session; answer = refused_by error } in made) one);
  }
