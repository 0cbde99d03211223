-- When a lane rests: no turn of its nodes would leave anything in it.
use Rattle.std.specs.Prelude.{◌≡◌, ℕ, [], false, List, None, Ok, Option, All}
use Rattle.rk_types.specs.NumberMap.{numbers}
use Rattle.rk_types.specs.declared.node.Node.{Node}
use Rattle.rk_types.specs.declared.node.Node.TheVariants as nodes
use Rattle.rk_world.specs.Backup.{Gave}
use Rattle.rk_world.specs.Master.{Master}
use Rattle.rk_world.specs.MasterTurn.{master_turn}
use Rattle.rk_world.specs.Premises.{MayTurn}
use Rattle.rk_world.specs.Step.{step}
use Rattle.rk_world.specs.World.{World, live_masters}
use Rattle.rk_world.specs.declared.event.Event.TheVariants as events
use Rattle.rk_lane.specs.Masters.{IsAt}

-- a node may take its turn, and that leaves the world as it is, and shows nothing
pub record IsIdle (w : World) (node : Node) : Type 0 where
  pub may : MayTurn w.coordinator.masters node
  pub leaves : step w (events.Turn node) (Gave None) ≡ Ok (record { world = w; seen = record { first = 0; sent = 0; lost = false; taken = None } })

-- so it is for the coordinator, and for each master that lives
pub record IsResting (w : World) : Type 0 where
  pub coordinator : IsIdle w nodes.Coordinator
  pub masters : All (λ master. IsIdle w (nodes.Master master)) (numbers (live_masters w))

-- the master of a number would send nothing on its turn
abbrev pub SendsNothing : List (Option Master) → ℕ → Type 0
SendsNothing masters number = (it : Master) → IsAt masters number it → (master_turn it).sends ≡ []
