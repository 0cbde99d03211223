use Rattle.std.proofs.Common.{◌≡◌, ℕ, false, []}
use Rattle.rk_world.specs.Premises.{IsMaster}
use Rattle.rk_world.specs.World.{has_crashed}
use Rattle.rk_lane.specs.Parts.{world_of}
use Rattle.rk_lane.specs.Resting.{SendsNothing}
use Rattle.rk_lane.proofs.resting.masters_rest.Given as goal

-- those so far have crashed or send nothing
abbrev pub invariant-loop-index : goal.invariant-loop-index
invariant-loop-index l =
    (master : ℕ) → IsMaster l.index master → has_crashed (world_of l.parts []) master ≡ false → SendsNothing l.parts.masters.items master
