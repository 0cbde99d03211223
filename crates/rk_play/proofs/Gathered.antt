-- What is gathered from the lanes of a cluster, one lane after the other.
use Rattle.rk_play.proofs.Words.{◌≡◌, ◌≤◌, ◌<◌, ◌+◌, ◌-◌, ◌^◌, ℕ, min, nat_le, sum, List, [], ◌∷◌, ◌++◌, flat_map, map, length, slice_get}
use Rattle.rk_play.proofs.Words.{take, Option, Some, sym, ap, ◌∙◌, arith, map_push, take_all, NumberMap, Segments, lane_at, World}
use Rattle.rk_play.proofs.Words.{new_world, LaneState, LanesTell, MOST_BYTES}
use Rattle.std.proofs.Common.{IfSome}
use Rattle.std.proofs.lemmas.List.{flat_map_more, take_more}
use Rattle.std.proofs.lemmas.List.Sums.{sum_by_push}
use Rattle.std.proofs.lemmas.Bool.Decides.{nat_tests}
use Rattle.rk_lane.specs.LaneState.{Running, world_with}
use Rattle.rk_cluster.specs.Told.{LaneTells}
use Rattle.rk_cluster.proofs.Telling.{lane_tells}
use Rattle.rk_cluster.proofs.Worlds.{same_count}

module _ {R : Type 0} (segments : R → Option Segments) where
  -- what is known of a lane that is not spent is seen in its worlds, if it does not look at their backups
  pub seen_running : {T : Type 0} (lane : LaneState R) (look : World → T) (told : T)
      → ((running : Running) (stored : NumberMap Segments) → look (world_with lane running stored) ≡ look (world_with lane running []))
      → IfSome lane.running (λ running. told ≡ look (world_with lane running []))
      → LaneTells segments lane look told
  seen_running lane look told blind known w is = grind arith

  module _ (lanes : List (LaneState R)) {A B : Type 0} (look : World → A) (gather : List World → B) (more : B → A → B)
      (grows : (worlds : List World) (w : World) → gather (worlds ++ w ∷ []) ≡ more (gather worlds) (look w)) where
    -- what was gathered from the lanes so far, with the next one
    pub gathered_next : (place : ℕ) (lane : LaneState R) (so_far after : B) → place < length lanes → slice_get lanes place ≡ Some lane
        → LaneTells segments lane (λ w. more so_far (look w)) after
        → LanesTell segments lanes (λ cluster. gather (take place cluster.lanes)) so_far
        → LanesTell segments lanes (λ cluster. gather (take (place + 1) cluster.lanes)) after
    gathered_next place lane so_far after within there tells before sessions cluster is =
        let count = same_count segments lanes cluster.lanes is.lanes in
        ap gather (take_more cluster.lanes place (new_world place 0 0) (omega (arith, count, within)))
        ∙ grows (take place cluster.lanes) (lane_at cluster place)
        ∙ ap (λ (gathered : B). more gathered (look (lane_at cluster place))) (before sessions cluster is)
        ∙ lane_tells segments lanes place lane (λ w. more so_far (look w)) after there tells sessions cluster is

    pub gathered_all : (place : ℕ) (so_far : B) → length lanes ≤ place → LanesTell segments lanes (λ cluster. gather (take place cluster.lanes)) so_far
        → LanesTell segments lanes (λ cluster. gather cluster.lanes) so_far
    gathered_all place so_far past before sessions cluster is =
        let count = same_count segments lanes cluster.lanes is.lanes in
        ap gather (sym (take_all place cluster.lanes (omega (arith, count, past)))) ∙ before sessions cluster is

-- ---- what is gathered

-- lists, one behind the other
pub lists_grow : {T : Type 0} (look : World → List T) (worlds : List World) (w : World) → flat_map look (worlds ++ w ∷ []) ≡ flat_map look worlds ++ look w
lists_grow look worlds w = sym (flat_map_more look [] worlds w)

-- one thing of each lane
pub each_grow : {T : Type 0} (look : World → T) (worlds : List World) (w : World) → map look (worlds ++ w ∷ []) ≡ map look worlds ++ look w ∷ []
each_grow look worlds w = map_push look worlds w

-- a sum, up to a limit
pub sums_grow : (look : World → ℕ) (most : ℕ) (worlds : List World) (w : World)
    → min (sum (map look (worlds ++ w ∷ []))) most ≡ min (min (sum (map look worlds)) most + look w) most
sums_grow look most worlds w = grind (arith, map_push, sum_by_push)

within : (n : ℕ) → nat_le MOST_BYTES n ≡ nat_le MOST_BYTES (min n (2 ^ 64 - 1))
within n = grind (arith, nat_tests)

-- a limit above this one does not matter if numbers are compared with this one
pub below_limit : (bytes told : ℕ) → min bytes (2 ^ 64 - 1) ≡ told → nat_le MOST_BYTES bytes ≡ nat_le MOST_BYTES told
below_limit bytes told is = within bytes ∙ ap (nat_le MOST_BYTES) is
