-- An order of the coordinator to a master, and when it is on the wire of a lane.
use Rattle.std.specs.Prelude.{◌≡◌, ℕ, Some}
use Rattle.rk_types.specs.NumberMap.{get}
use Rattle.rk_types.specs.declared.node.Node.TheVariants as nodes
use Rattle.rk_message.specs.declared.message.Body.{Body}
use Rattle.rk_message.specs.declared.message.Message.{Message}
use Rattle.rk_world.specs.World.{World}

-- an order to a master
abbrev pub order_to : ℕ → Body → Message
order_to master body = record { from = nodes.Coordinator; to = nodes.Master master; body = body }

-- an order to a master is on the wire under a number
abbrev pub IsOrdered : World → ℕ → ℕ → Body → Type 0
IsOrdered w number master body = get w.wire.messages number ≡ Some (order_to master body)
