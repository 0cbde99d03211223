-- A master that crashes in one lane after the other.
use Rattle.std.specs.Prelude.{◌≡◌, ◌≢◌, ℕ, List, map, slice_get, ⊤}
use Rattle.std.specs.List.{range_with_len}
use Rattle.rk_types.specs.declared.hashing.TheConstants.{LANES}
use Rattle.rk_world.specs.declared.event.Event.TheVariants as events
use Rattle.rk_lane.specs.LaneState.{LaneState}
use Rattle.rk_cluster.specs.declared.error.ClusterError.{ClusterError}
use Rattle.rk_cluster.specs.declared.error.ClusterError.TheVariants as errors
use Rattle.rk_cluster.specs.declared.steps.Deed.{Deed}

-- the lanes at other places than this are as they were
abbrev pub IsSameBeside : {R : Type 0} → ℕ → List (LaneState R) → List (LaneState R) → Type 0
IsSameBeside lane old new = (place : ℕ) → place ≢ lane → slice_get new place ≡ slice_get old place

-- a master crashes in each lane
abbrev pub crashes : ℕ → List Deed
crashes master = map (λ lane. record { lane = lane; event = events.Crash master }) (range_with_len 0 LANES)

-- an error is a code: neither is memory wanting, nor is a lane worn
abbrev pub IsOfCode : ClusterError → Type 0
IsOfCode (errors.Code code) = ⊤
IsOfCode error = ⊥
