-- What lanes in code show of the clusters that they stand for.
use Rattle.rk_cluster.proofs.Words.{◌≡◌, ◌≤◌, ◌<◌, ℕ, zero, suc, ◌+◌, Bool, true, false, ◌&&◌, ◌||◌, cond, List, [], ◌∷◌, ◌++◌, filter}
use Rattle.rk_cluster.proofs.Words.{length, slice_get, slice_index_or, take, Option, None, Some, refl, sym, ap, ◌∙◌, arith, list_all}
use Rattle.rk_cluster.proofs.Words.{range_with_len, take_all, list_all_at, list_all_more, Segments, lane_at, World, new_world, LaneState}
use Rattle.rk_cluster.proofs.Words.{all_lanes, is_owner, LaneTells, LanesTell}
use Rattle.std.proofs.Common.{eqb}
use Rattle.std.specs.List.{list_any}
use Rattle.std.specs.Option.{option_eq}
use Rattle.std.proofs.lemmas.List.Elements.{filter-append}
use Rattle.std.proofs.lemmas.List.Folds.{list_any_at, list_any_more}
use Rattle.rk_cluster.proofs.Worlds.{same_count, world_at}

-- one more number
range_more : (from count : ℕ) → range_with_len from (count + 1) ≡ range_with_len from count ++ (from + count) ∷ []
range_more from zero = let same : from ≡ from + 0 = omega arith in ap (λ (n : ℕ). n ∷ []) same
range_more from (suc count) = grind (arith, (range_more (from + 1) count))

-- the numbers so far that pass a test, with one more
pub filter_more : (test : ℕ → Bool) (count : ℕ) → filter test (range_with_len 0 (count + 1)) ≡ filter test (range_with_len 0 count) ++ cond (test count) (count ∷ []) []
filter_more test count = grind (arith, range_more, filter-append)

-- whether an owner is this master, as options are compared
pub owner_eq : (master : ℕ) (owner : Option ℕ) → is_owner master owner ≡ option_eq eqb owner (Some master)
owner_eq master None = refl
owner_eq master (Some owner) = refl

module _ {R : Type 0} (segments : R → Option Segments) where
  module _ (lanes : List (LaneState R)) where
    -- what a lane shows is seen in the lane at its place
    pub lane_tells : {T : Type 0} (place : ℕ) (lane : LaneState R) (look : World → T) (seen : T) → slice_get lanes place ≡ Some lane
        → LaneTells segments lane look seen → LanesTell segments lanes (λ cluster. look (lane_at cluster place)) seen
    lane_tells place lane look seen there tells sessions cluster is =
        tells (lane_at cluster place) (world_at segments lanes cluster.lanes place lane (new_world place 0 0) is.lanes there)

    -- ---- all lanes, one after the other

    module _ (test : World → Bool) where
      pub all_next : (place : ℕ) (lane : LaneState R) → place < length lanes → slice_get lanes place ≡ Some lane → LaneTells segments lane test true
          → LanesTell segments lanes (λ cluster. list_all test (take place cluster.lanes)) true
          → LanesTell segments lanes (λ cluster. list_all test (take (place + 1) cluster.lanes)) true
      all_next place lane within there tells before sessions cluster is =
          let count = same_count segments lanes cluster.lanes is.lanes in
          let here : test (lane_at cluster place) ≡ true = lane_tells place lane test true there tells sessions cluster is in
          list_all_more test cluster.lanes place (new_world place 0 0) (omega (arith, count, within))
          ∙ ap (λ (b : Bool). b && test (lane_at cluster place)) (before sessions cluster is) ∙ here

      pub all_but : (place : ℕ) (lane : LaneState R) → place < length lanes → slice_get lanes place ≡ Some lane → LaneTells segments lane test false
          → LanesTell segments lanes (λ cluster. list_all test cluster.lanes) false
      all_but place lane within there tells sessions cluster is =
          let count = same_count segments lanes cluster.lanes is.lanes in
          list_all_at test cluster.lanes place (new_world place 0 0) (omega (arith, count, within)) (lane_tells place lane test false there tells sessions cluster is)

      pub all_past : (place : ℕ) → length lanes ≤ place → LanesTell segments lanes (λ cluster. list_all test (take place cluster.lanes)) true
          → LanesTell segments lanes (λ cluster. list_all test cluster.lanes) true
      all_past place past before sessions cluster is =
          let count = same_count segments lanes cluster.lanes is.lanes in
          ap (list_all test) (sym (take_all place cluster.lanes (omega (arith, count, past)))) ∙ before sessions cluster is

      -- ---- some lanes, by their numbers

      pub any_next : (among : List ℕ) (place : ℕ) (d : ℕ) (lane : LaneState R) → place < length among → slice_get lanes (slice_index_or among place d) ≡ Some lane
          → LaneTells segments lane test false
          → LanesTell segments lanes (λ cluster. list_any (λ number. test (lane_at cluster number)) (take place among)) false
          → LanesTell segments lanes (λ cluster. list_any (λ number. test (lane_at cluster number)) (take (place + 1) among)) false
      any_next among place d lane within there tells before sessions cluster is =
          let number = slice_index_or among place d in
          let here : test (lane_at cluster number) ≡ false = lane_tells number lane test false there tells sessions cluster is in
          list_any_more (λ number. test (lane_at cluster number)) among place d within
          ∙ ap (λ (b : Bool). b || test (lane_at cluster number)) (before sessions cluster is) ∙ here

      pub any_here : (among : List ℕ) (place : ℕ) (d : ℕ) (lane : LaneState R) → place < length among → slice_get lanes (slice_index_or among place d) ≡ Some lane
          → LaneTells segments lane test true → LanesTell segments lanes (λ cluster. list_any (λ number. test (lane_at cluster number)) among) true
      any_here among place d lane within there tells sessions cluster is =
          list_any_at (λ number. test (lane_at cluster number)) among place d within
          (lane_tells (slice_index_or among place d) lane test true there tells sessions cluster is)

      pub any_past : (among : List ℕ) (place : ℕ) → length among ≤ place
          → LanesTell segments lanes (λ cluster. list_any (λ number. test (lane_at cluster number)) (take place among)) false
          → LanesTell segments lanes (λ cluster. list_any (λ number. test (lane_at cluster number)) among) false
      any_past among place past before sessions cluster is =
          ap (list_any (λ number. test (lane_at cluster number))) (sym (take_all place among past)) ∙ before sessions cluster is

      -- the numbers of the lanes that pass
      pub found_next : (place : ℕ) (lane : LaneState R) (found : List ℕ) (passes : Bool) → slice_get lanes place ≡ Some lane → LaneTells segments lane test passes
          → LanesTell segments lanes (λ cluster. filter (λ number. test (lane_at cluster number)) (range_with_len 0 place)) found
          → LanesTell segments lanes (λ cluster. filter (λ number. test (lane_at cluster number)) (range_with_len 0 (place + 1))) (found ++ cond passes (place ∷ []) [])
      found_next place lane found passes there tells before sessions cluster is =
          let here : test (lane_at cluster place) ≡ passes = lane_tells place lane test passes there tells sessions cluster is in
          filter_more (λ number. test (lane_at cluster number)) place
          ∙ (λ i. before sessions cluster is i ++ cond (here i) (place ∷ []) [])

      pub found_past : (place : ℕ) (found : List ℕ) → length lanes ≡ place
          → LanesTell segments lanes (λ cluster. filter (λ number. test (lane_at cluster number)) (range_with_len 0 place)) found
          → LanesTell segments lanes (λ cluster. filter (λ number. test (lane_at cluster number)) (all_lanes cluster)) found
      found_past place found count before sessions cluster is =
          let many : length cluster.lanes ≡ place = same_count segments lanes cluster.lanes is.lanes ∙ count in
          ap (λ (n : ℕ). filter (λ number. test (lane_at cluster number)) (range_with_len 0 n)) many ∙ before sessions cluster is
