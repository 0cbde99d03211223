-- Messages on the wire of a lane: orders and reports, and what a delivery makes.
use Rattle.std.specs.Prelude.{◌≡◌, ℕ, None, Some}
use Rattle.rk_types.specs.NumberMap.{get}
use Rattle.rk_types.specs.declared.node.Node.TheVariants as nodes
use Rattle.rk_tablet_map.specs.declared.row.Row.{Row}
use Rattle.rk_message.specs.Wire.{with_message}
use Rattle.rk_message.specs.declared.calls.Request.{Request}
use Rattle.rk_message.specs.declared.message.Body.{Body}
use Rattle.rk_message.specs.declared.message.Message.{Message}
use Rattle.rk_world.specs.Backup.{Called}
use Rattle.rk_world.specs.CoordinatorStep.{own_to}
use Rattle.rk_world.specs.Step.{happened}
use Rattle.rk_world.specs.World.{World}
use Rattle.rk_world.specs.declared.event.Event.TheVariants as events
use Rattle.rk_inv_events.specs.request.Small.{request_message}
use Rattle.rk_inv_lanes.specs.late.Unchanged.{IsUnchanged}

-- an order of the coordinator to a master
abbrev pub order_to : ℕ → Body → Message
order_to master body = record { from = nodes.Coordinator; to = nodes.Master master; body = body }

-- what a master reports to the coordinator
abbrev pub report_of : ℕ → Body → Message
report_of master body = record { from = nodes.Master master; to = nodes.Coordinator; body = body }

-- nothing has changed, and just one message was sent: the Own of a row's tablet, to a master
pub record IsToldToOwn (before : World) (master : ℕ) (row : Row) (after : World) : Type 0 where
  pub unchanged : IsUnchanged before after
  pub told : after.wire ≡ with_message (own_to master row) before.wire

-- a message is on the wire once a Request is delivered, and nothing was under its number before
pub record IsMade (w : World) (number new master client : ℕ) (request : Request) (message : Message) (called : Called) : Type 0 where
  pub asked : get w.wire.messages number ≡ Some (request_message client master request)
  pub free : get w.wire.messages new ≡ None
  pub made : get (happened w (events.Deliver number) called).world.wire.messages new ≡ Some message
