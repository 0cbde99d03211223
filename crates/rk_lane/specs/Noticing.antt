-- Which masters a lane in code notices dead, and in which groups; and how far terms may rise by that.
use Rattle.std.specs.Prelude.{ℕ, ◌<◌, ◌+◌, ◌^◌, ◌==◌, ◌&&◌, Bool, not, List, [], All, filter}
use Rattle.rk_tablet_map.specs.declared.row.Row.{Row}
use Rattle.rk_world.specs.Coordinator.{Coordinator, is_noticed}
use Rattle.rk_world.specs.Notices.{is_named}
use Rattle.rk_world.specs.World.{crashed_masters, has_crashed}
use Rattle.rk_lane.specs.Parts.{world_of}
use Rattle.rk_lane.specs.declared.notices.Group.{Group}
use Rattle.rk_lane.specs.declared.notices.Group.TheVariants as groups
use Rattle.rk_lane.specs.declared.parts.Parts.{Parts}

-- whether a master is of a group, at the notice of one of them
abbrev pub is_of : List Row → ℕ → Group → ℕ → Bool
is_of rows dead groups.Unnamed master = not (is_named rows master)
is_of rows dead groups.Named master = is_named rows master && not (master == dead)
is_of rows dead groups.Last master = is_named rows master && (master == dead)

-- whether a master has crashed and was not noticed
abbrev pub is_unnoticed : Parts → ℕ → Bool
is_unnoticed parts master = has_crashed (world_of parts []) master && not (is_noticed parts.coordinator master)

-- the masters that have crashed and were not noticed, by rising number
abbrev pub unnoticed : Parts → List ℕ
unnoticed parts = filter (λ master. not (is_noticed parts.coordinator master)) (crashed_masters (world_of parts []))

-- each term may rise so often
abbrev pub MayRiseBy : ℕ → Coordinator → Type 0
MayRiseBy count coordinator = All (λ row. row.term + count < 2 ^ 63) coordinator.rows
