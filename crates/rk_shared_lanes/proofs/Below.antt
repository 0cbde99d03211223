-- Of eight lanes by rising number, no count of faults is below those of the roster exactly if none is below them in any of these lanes.
use Rattle.rk_shared_lanes.proofs.Words.{◌≡◌, ◌≤◌, ◌<◌, ℕ, List, [], ◌∷◌, length, Option, None, Some, refl, sym, ap, subst, ◌∙◌, ⊎_elim}
use Rattle.rk_shared_lanes.proofs.Words.{arith, All, All-nil, LANES, LaneState, Counts, RoseBy, lane_counts, IsNoneBelow, numbers_of}
use Rattle.std.proofs.Common.{suc, get_or, slice_get}
use Rattle.std.specs.List.{range_with_len}
use Rattle.std.proofs.lemmas.Bool.{cases_lt}
use Rattle.std.proofs.lemmas.List.{get_or-map, length-map}
use Rattle.std.proofs.lemmas.List.Elements.{All-cons, All-get_or}
use Rattle.std.proofs.lemmas.List.FromFn.{get_or-range_with_len, length-range_with_len}
use Rattle.std.proofs.lemmas.Option.{get_or_from_slice_get, slice_get_past, slice_get_within}
use Rattle.rk_cluster.specs.Faults.{GoOn, counts_in}
use Rattle.rk_cluster.proofs.Worlds.{something_within}

-- a count behind which there is none is none
none_before : (before : Option ℕ) → RoseBy 0 before None → before ≡ None
none_before None rose = refl
none_before (Some before) rose = absurd rose

-- what holds at each place of a list
each_holds : {X : Type 0} (P : X → Type 0) (xs : List X) → ((place : ℕ) (x : X) → slice_get xs place ≡ Some x → P x) → All P xs
each_holds P [] each = All-nil P
each_holds P (x ∷ xs) each = All-cons P x xs (each 0 x refl) (each_holds P xs (λ place y there. each (suc place) y there))

holds_at : {X : Type 0} (P : X → Type 0) (xs : List X) (place : ℕ) (x : X) → slice_get xs place ≡ Some x → All P xs → P x
holds_at P xs place x there all = subst P (get_or_from_slice_get xs place x x there) (All-get_or P xs place x (slice_get_within xs place x there) all)

module _ {R : Type 0} (faults : R → ℕ) (counts : Counts) (lanes : List (LaneState R)) (numbers : numbers_of lanes ≡ range_with_len 0 LANES) where
  abbrev number_in : LaneState R → ℕ
  number_in lane = lane.number

  eight : length lanes ≡ LANES
  eight = sym (length-map lanes number_in) ∙ ap length numbers ∙ length-range_with_len 0 LANES

  number_is : (place : ℕ) (lane : LaneState R) → slice_get lanes place ≡ Some lane → lane.number ≡ place
  number_is place lane there =
      let within = slice_get_within lanes place lane there in
      sym (ap number_in (get_or_from_slice_get lanes place lane lane there))
      ∙ sym (get_or-map number_in lanes place lane 0 within)
      ∙ ap (λ (all : List ℕ). get_or all place 0) numbers
      ∙ get_or-range_with_len 0 LANES place 0 (omega (arith, within, eight)) ∙ omega arith

  -- none is below them in any lane
  pub each_above : GoOn [] counts (counts_in faults lanes) → All (IsNoneBelow faults counts) lanes
  each_above on =
      each_holds (IsNoneBelow faults counts) lanes
      (λ number lane there place.
      subst (λ (n : ℕ). RoseBy 0 (counts n place) (lane_counts faults (Some lane) place)) (sym (number_is number lane there))
      (subst (λ (found : Option (LaneState R)). RoseBy 0 (counts number place) (lane_counts faults found place)) there (on number place)))

  -- and the roster has none of further lanes
  pub none_further : GoOn [] counts (counts_in faults lanes) → (number place : ℕ) → LANES ≤ number → counts number place ≡ None
  none_further on number place past = grind (arith, none_before, lane_counts, slice_get_past, eight)

  pub all_above : ((number place : ℕ) → LANES ≤ number → counts number place ≡ None) → All (IsNoneBelow faults counts) lanes → GoOn [] counts (counts_in faults lanes)
  all_above further above number place =
      ⊎_elim
      (λ (within : number < LANES).
      let its = something_within lanes number (omega (arith, within, eight)) in
      subst (λ (found : Option (LaneState R)). RoseBy 0 (counts number place) (lane_counts faults found place)) (sym its.1)
      (subst (λ (n : ℕ). RoseBy 0 (counts n place) (lane_counts faults (Some its.0) place)) (number_is number its.0 its.1)
      (holds_at (IsNoneBelow faults counts) lanes number its.0 its.1 above place)))
      (λ (past : LANES ≤ number).
      subst (λ (found : Option (LaneState R)). RoseBy 0 (counts number place) (lane_counts faults found place)) (sym (slice_get_past lanes number (omega (arith, eight, past))))
      (subst (λ (count : Option ℕ). RoseBy 0 count None) (sym (further number place past)) refl)) (cases_lt number LANES)
