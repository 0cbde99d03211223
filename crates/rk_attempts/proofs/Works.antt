-- Work in a lane: turns, replays and attempts, put together from their events.
use Rattle.std.proofs.Common.{◌≡◌, ◌≢◌, ◌≤◌, ℕ, zero, suc, ◌+◌, ◌-◌, Bool, true, false, cond, List, [], ◌∷◌, ◌++◌, fold, Option, Some, None, Result, Ok, Err, refl, sym, ap, subst, ◌∙◌, arith}
use Rattle.std.specs.Prelude.{All, IfErr, IfOk, IfSome, OnOk, is_some}
use Rattle.std.specs.List.{range_with_len}
use Rattle.std.proofs.lemmas.List.Elements.{All-nil, All-push}
use Rattle.std.proofs.lemmas.List.Sums.{fold-append}
use Rattle.rk_types.specs.declared.node.Node.TheVariants as nodes
use Rattle.rk_outside.specs.Segments.{Segments}
use Rattle.rk_world.specs.Backup.{Called, Gave}
use Rattle.rk_world.specs.Premises.{MayCome}
use Rattle.rk_world.specs.World.{World, has_crashed}
use Rattle.rk_world.specs.declared.error.StepError.{StepError}
use Rattle.rk_world.specs.declared.error.StepError.TheVariants as errors
use Rattle.rk_world.specs.declared.event.Event.{Event}
use Rattle.rk_world.specs.declared.event.Event.TheVariants as events
use Rattle.rk_world.specs.declared.event.Seen.{Seen}
use Rattle.rk_lane.specs.Events.{IsRefused, IsStepOf}
use Rattle.rk_lane.specs.LaneState.{LaneState, Running, world_with}
use Rattle.rk_attempts.specs.Came.{Comes, IsReplay, IsTurn, has_come}
use Rattle.rk_attempts.specs.Ends.{EndsAt, IsEvent, IsHanded, IsHandedOut, StopsAt}
use Rattle.rk_attempts.specs.Progress.{Progress, came, handed, started, worn_at}
use Rattle.rk_attempts.specs.Replays.{is_replayed, replay_on}
use Rattle.rk_attempts.specs.Shorts.{short_by, short_of}
use Rattle.rk_attempts.specs.Turns.{handed_next, handed_oldest, master_turned, next_message, nodes_turned, turn_on}
use Rattle.rk_attempts.specs.declared.attempt.Short.{Short}
use Rattle.rk_attempts.specs.declared.attempt.Short.TheVariants as shorts
use Rattle.rk_attempts.proofs.Coming.{IsOneOf, came_with, comes_as, comes_nowhere, comes_then, event_refused, event_taken}

-- ---- how work ends

-- work that did not run out of memory stopped at a number
pub stopped_at : (short : Short) (worn : Option ℕ) → StopsAt short worn → (number : ℕ) × (worn ≡ Some number)
stopped_at shorts.NoMemory worn stops = absurd stops
stopped_at (shorts.Worn number) worn stops = (number, stops)

-- a refusal that is not want of memory, and the number at which it stops work
abbrev IsKnown : StepError → Option ℕ → Type 0
IsKnown error worn = (error ≢ errors.NoMemory) × (worn_at error ≡ worn)

-- a refusal that is passed over
passed : {T : Type 0} (error : StepError) (result : Result T Short) (worn : Option ℕ) → short_by error ≡ None → worn_at error ≡ None → error ≢ errors.NoMemory
    → IfErr result (λ short. short_by error ≡ Some short) → EndsAt result worn → IsKnown error worn
passed error (Ok x) worn none at other stops ends = (other, at ∙ sym ends)
passed error (Err short) worn none at other stops ends = absurd (let never : None ≡ Some short = sym none ∙ stops in cc never)

known : {T : Type 0} (error : StepError) (result : Result T Short) (worn : Option ℕ) → OnOk result (short_by error ≡ None) → IfErr result (λ short. short_by error ≡ Some short)
    → EndsAt result worn → IsKnown error worn
known error result worn goes stops ends = grind (arith, passed)

module _ {R : Type 0} (segments : R → Option Segments) where
  -- ---- one event

  module _ (faults : R → ℕ) (old new : LaneState R) (event : Event) where
    event_answered : {T : Type 0} (running : Running) → old.running ≡ Some running → (answer : Result Seen StepError) (result : Result T Short)
        → IfOk answer (IsStepOf segments faults event old new) → IfErr answer (IsRefused faults event old new)
        → OnOk result (short_of answer ≡ None) → IfErr result (λ short. short_of answer ≡ Some short)
        → (worn : Option ℕ) → EndsAt result worn → IsEvent segments old new event worn
    event_answered running runs (Ok seen) (Ok x) ok err goes stops worn ends =
        subst (IsEvent segments old new event) (sym ends) (event_taken segments faults old new event seen ok)
    event_answered running runs (Ok seen) (Err short) ok err goes stops worn ends = absurd (cc stops)
    event_answered running runs (Err error) result ok err goes stops worn ends =
        let is = known error result worn goes stops ends in
        subst (IsEvent segments old new event) is.1 (event_refused segments faults old new running event error runs err is.0)

    pub event_of : {T : Type 0} (answer : Result Seen StepError) (result : Result T Short) → is_some old.running ≡ true
        → IfSome old.running (λ _. IfOk answer (IsStepOf segments faults event old new)) → IfErr answer (IsRefused faults event old new)
        → OnOk result (short_of answer ≡ None) → IfErr result (λ short. short_of answer ≡ Some short)
        → (worn : Option ℕ) → EndsAt result worn → IsEvent segments old new event worn
    event_of answer result some ok err goes stops worn ends = by_running old.running refl some ok
      where
        by_running : (running : Option Running) → old.running ≡ running → is_some running ≡ true
            → IfSome running (λ _. IfOk answer (IsStepOf segments faults event old new)) → IsEvent segments old new event worn
        by_running None is some ok = absurd (cc some)
        by_running (Some running) is some ok = event_answered running is answer result ok err goes stops worn ends

  -- ---- a message that is handed over

  pub handed_both : (old middle new : LaneState R) (number : ℕ) (worn : Option ℕ) → IsEvent segments old middle (events.Deliver number) None
      → IsEvent segments middle new (events.Forget number) worn → IsHanded segments old new number worn
  handed_both old middle new number worn first second = record {
    called = first.called;
    may = first.may;
    comes =
        comes_then segments old middle new (λ w. came (started w) (events.Deliver number) first.called) (has_come None)
        (λ w. came (started w) (events.Forget number) second.called) (has_come worn) (λ w. handed (started w) number first.called) (has_come worn)
        first.comes second.comes
        (λ w v u of_old of_middle of_new one two.
        ap (λ (p : Progress). came p (events.Forget number) (Gave None)) one
        ∙ came_with segments v (events.Forget number) (Gave None) second.called refl ∙ two);
  }

  pub handed_short : (old new : LaneState R) (number : ℕ) (worn : Option ℕ) (at : ℕ) → worn ≡ Some at → IsEvent segments old new (events.Deliver number) worn
      → IsHanded segments old new number worn
  handed_short old new number worn at is first = grind (arith, comes_as)

  -- ---- turns of nodes

  -- a master's turn, by whether it has crashed
  abbrev turned_by : World → ℕ → Bool → Progress
  turned_by w master crashed = cond crashed (started w) (came (started w) (events.Turn (nodes.Master master)) (Gave None))

  crashed_in : (lane : LaneState R) (master : ℕ) (crashed : Bool) → IfSome lane.running (λ running. crashed ≡ has_crashed (world_with lane running []) master)
      → (w : World) → IsOneOf lane w → has_crashed w master ≡ crashed
  crashed_in lane master crashed tells w it = grind arith

  pub master_lives : (old new : LaneState R) (master : ℕ) (worn : Option ℕ) → IfSome old.running (λ running. false ≡ has_crashed (world_with old running []) master)
      → IsEvent segments old new (events.Turn (nodes.Master master)) worn → Comes segments old new (λ w. master_turned (started w) master) (has_come worn)
  master_lives old new master worn lives it = grind (arith, comes_as, crashed_in, came_with)

  pub master_crashed : (old : LaneState R) (running : Running) (master : ℕ) → old.running ≡ Some running → IfSome old.running (λ running. true ≡ has_crashed (world_with old running []) master)
      → Comes segments old old (λ w. master_turned (started w) master) (has_come None)
  master_crashed old running master runs crashed = grind (arith, comes_as, comes_nowhere, crashed_in)

  -- the coordinator has taken its turn, and the first masters
  abbrev pub first_turned : ℕ → World → Progress
  first_turned count w = fold master_turned (came (started w) (events.Turn nodes.Coordinator) (Gave None)) (range_with_len 1 count)

  pub coordinator_turned : (old new : LaneState R) (worn : Option ℕ) → IsEvent segments old new (events.Turn nodes.Coordinator) worn
      → Comes segments old new (first_turned 0) (has_come worn)
  coordinator_turned old new worn it = grind (arith, comes_as, came_with)

  range_more : (from count : ℕ) → range_with_len from (suc count) ≡ range_with_len from count ++ (from + count) ∷ []
  range_more from zero = let same : from ≡ from + 0 = omega arith in ap (λ (n : ℕ). n ∷ []) same
  range_more from (suc count) = grind (arith, (range_more (from + 1) count))

  pub one_more_turned : (old middle new : LaneState R) (count : ℕ) (worn : Option ℕ) → Comes segments old middle (first_turned count) started
      → Comes segments middle new (λ w. master_turned (started w) (count + 1)) (has_come worn) → Comes segments old new (first_turned (count + 1)) (has_come worn)
  one_more_turned old middle new count worn before now =
      comes_then segments old middle new (first_turned count) started (λ w. master_turned (started w) (count + 1)) (has_come worn) (first_turned (count + 1)) (has_come worn) before now
      (λ w v u of_old of_middle of_new one two.
      let first = came (started w) (events.Turn nodes.Coordinator) (Gave None) in
      let next : count + 1 ≡ suc count = omega arith in
      ap (λ (n : ℕ). fold master_turned first (range_with_len 1 n)) next
      ∙ ap (fold master_turned first) (range_more 1 count)
      ∙ fold-append master_turned first (range_with_len 1 count) ((1 + count) ∷ [])
      ∙ ap (λ (p : Progress). master_turned p (1 + count)) one
      ∙ (let same : 1 + count ≡ count + 1 = omega arith in ap (λ (n : ℕ). master_turned (started v) n) same) ∙ two)

  -- work that has ended does not go on
  ended_turns : (w : World) (at : ℕ) (masters : List ℕ) → fold master_turned (has_come (Some at) w) masters ≡ has_come (Some at) w
  ended_turns w at [] = refl
  ended_turns w at (master ∷ masters) = grind (arith, (ended_turns w at masters))

  range_in_two : (from count more : ℕ) → range_with_len from (count + more) ≡ range_with_len from count ++ range_with_len (from + count) more
  range_in_two from zero more = grind arith
  range_in_two from (suc count) more =
      ap (λ (n : ℕ). range_with_len from n) (let next : suc count + more ≡ suc (count + more) = omega arith in next)
      ∙ ap (λ (rest : List ℕ). from ∷ rest) (range_in_two (from + 1) count more)
      ∙ (let same : (from + 1) + count ≡ from + suc count = omega arith in ap (λ (n : ℕ). from ∷ range_with_len (from + 1) count ++ range_with_len n more) same)

  pub turns_ended : (old new : LaneState R) (count masters : ℕ) (worn : Option ℕ) (at : ℕ) → worn ≡ Some at → count ≤ masters → Comes segments old new (first_turned count) (has_come worn)
      → Comes segments old new (λ w. nodes_turned w masters) (has_come worn)
  turns_ended old new count masters worn at is within came_so =
      subst (λ (it : Option ℕ). Comes segments old new (λ w. nodes_turned w masters) (has_come it)) (sym is)
      (comes_as segments old new (first_turned count) (has_come (Some at)) (λ w. nodes_turned w masters) (has_come (Some at))
      (subst (λ (it : Option ℕ). Comes segments old new (first_turned count) (has_come it)) is came_so)
      (λ w v of_old of_new one.
      let first = came (started w) (events.Turn nodes.Coordinator) (Gave None) in
      let all : masters ≡ count + (masters - count) = omega (arith, within) in
      ap (λ (n : ℕ). fold master_turned first (range_with_len 1 n)) all
      ∙ ap (fold master_turned first) (range_in_two 1 count (masters - count))
      ∙ fold-append master_turned first (range_with_len 1 count) (range_with_len (1 + count) (masters - count))
      ∙ ap (λ (p : Progress). fold master_turned p (range_with_len (1 + count) (masters - count))) one
      ∙ ended_turns v at (range_with_len (1 + count) (masters - count))))

  -- ---- messages that are handed out

  -- messages were handed out so far
  pub record IsHandingOut (old new : LaneState R) (worn : Option ℕ) : Type 0 where
    pub calls : List Called
    pub may : All MayCome calls
    pub comes : Comes segments old new (λ w. fold handed_oldest (started w) calls) (has_come worn)

  pub none_handed_out : (lane : LaneState R) (running : Running) → lane.running ≡ Some running → IsHandingOut lane lane None
  none_handed_out lane running runs = record { calls = []; may = All-nil MayCome; comes = comes_nowhere segments lane running started runs }

  next_in : (lane : LaneState R) (found : Option ℕ) → IfSome lane.running (λ running. found ≡ next_message (world_with lane running []))
      → (w : World) → IsOneOf lane w → next_message w ≡ found
  next_in lane found tells w it =
      ap next_message it.is ∙ sym (subst (λ (o : Option Running). IfSome o (λ running. found ≡ next_message (world_with lane running []))) it.runs tells)

  pub one_handed_out : (old middle new : LaneState R) (number : ℕ) (worn : Option ℕ) → IsHandingOut old middle None
      → IfSome middle.running (λ running. Some number ≡ next_message (world_with middle running []))
      → IsHanded segments middle new number worn → IsHandingOut old new worn
  one_handed_out old middle new number worn before next it = record {
    calls = before.calls ++ it.called ∷ [];
    may = All-push MayCome before.calls it.called before.may it.may;
    comes =
        comes_then segments old middle new (λ w. fold handed_oldest (started w) before.calls) started (λ w. handed (started w) number it.called) (has_come worn)
        (λ w. fold handed_oldest (started w) (before.calls ++ it.called ∷ [])) (has_come worn) before.comes it.comes
        (λ w v u of_old of_middle of_new one two.
        fold-append handed_oldest (started w) before.calls (it.called ∷ [])
        ∙ ap (λ (p : Progress). handed_oldest p it.called) one
        ∙ ap (handed_next (started v) it.called) (next_in middle (Some number) next v of_middle) ∙ two);
  }

  pub handed_out_short : (old new : LaneState R) (worn : Option ℕ) (at : ℕ) → worn ≡ Some at → IsHandingOut old new worn → IsHandedOut segments old new worn
  handed_out_short old new worn at is it = grind arith

  -- ---- turns

  counts_masters : (lane : LaneState R) → IfSome lane.running (λ running. running.coordinator.masters ≡ lane.masters) → (w : World) → IsOneOf lane w → w.coordinator.masters ≡ lane.masters
  counts_masters lane tells w it = grind arith

  pub turn_taken : (old middle new : LaneState R) (worn : Option ℕ) → IfSome old.running (λ running. running.coordinator.masters ≡ old.masters)
      → Comes segments old middle (λ w. nodes_turned w old.masters) (has_come None) → IsHandedOut segments middle new worn → IsTurn segments old new worn
  turn_taken old middle new worn counts before it = grind (arith, comes_then, counts_masters)

  pub turn_short : (old new : LaneState R) (worn : Option ℕ) (at : ℕ) → worn ≡ Some at → IfSome old.running (λ running. running.coordinator.masters ≡ old.masters)
      → Comes segments old new (λ w. nodes_turned w old.masters) (has_come worn) → IsTurn segments old new worn
  turn_short old new worn at is counts before = record {
    calls = [];
    may = All-nil MayCome;
    comes =
        comes_as segments old new (λ w. nodes_turned w old.masters) (has_come worn) (λ w. turn_on w []) (has_come worn) before
        (λ w v of_old of_new one. ap (nodes_turned w) (counts_masters old counts w of_old) ∙ one);
    rest = λ none running runs. absurd (let never : Some at ≡ None = sym is ∙ none in cc never);
  }

  -- ---- replays

  abbrev replayed_by : World → ℕ → Called → Bool → Progress
  replayed_by w number called here = cond here (handed (started w) number called) (started w)

  replayed_in : (lane : LaneState R) (number : ℕ) (here : Bool) → IfSome lane.running (λ running. here ≡ is_replayed (world_with lane running []) number)
      → (w : World) → IsOneOf lane w → is_replayed w number ≡ here
  replayed_in lane number here tells w it = grind arith

  pub replay_done : (old new : LaneState R) (number : ℕ) (worn : Option ℕ) → IfSome old.running (λ running. true ≡ is_replayed (world_with old running []) number)
      → IsHanded segments old new number worn → IsReplay segments old new number worn
  replay_done old new number worn here it = grind (arith, comes_as, replayed_in)

  pub replay_none : (old : LaneState R) (running : Running) (number : ℕ) → old.running ≡ Some running → IfSome old.running (λ running. false ≡ is_replayed (world_with old running []) number)
      → IsReplay segments old old number None
  replay_none old running number runs gone = record {
    called = Gave None;
    may = tt;
    comes =
        comes_as segments old old started started (λ w. replay_on w number (Gave None)) (has_come None) (comes_nowhere segments old running started runs)
        (λ w v of_old of_new one. ap (replayed_by w number (Gave None)) (replayed_in old number false gone w of_old) ∙ one);
  }
