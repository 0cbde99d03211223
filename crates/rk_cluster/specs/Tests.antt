-- Tests of lanes.
use Rattle.std.specs.Prelude.{◌≡◌, Bool, true, [], IfSome, Some}
use Rattle.rk_world.specs.World.{World}
use Rattle.rk_lane.specs.LaneState.{LaneState, Running, world_with}

-- a test holds in a lane, if that is not spent
abbrev pub HoldsIn : {R : Type 0} → (World → Bool) → LaneState R → Type 0
HoldsIn test lane = (running : Running) → lane.running ≡ Some running → test (world_with lane running []) ≡ true

-- this says whether a test holds in a lane, if that is not spent
abbrev pub TellsOf : {R : Type 0} → (World → Bool) → LaneState R → Bool → Type 0
TellsOf test lane told = IfSome lane.running (λ running. told ≡ test (world_with lane running []))
