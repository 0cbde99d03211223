-- What a master appends when it takes a message: that it can be spelled.
use Rattle.std.specs.Prelude.{◌≡◌, ◌<◌, ◌+◌, ℕ, Some, IfSome}
use Rattle.rk_types.specs.NumberMap.{get}
use Rattle.rk_types.specs.declared.node.Node.{Node}
use Rattle.rk_entry.specs.Lawful.{IsLawfulEntry}
use Rattle.rk_transfer.specs.Handover.{granted}
use Rattle.rk_message.specs.declared.handover.Grant.{Grant}
use Rattle.rk_message.specs.declared.message.Body.{Body}
use Rattle.rk_world.specs.Formed.{IsWellFormed}
use Rattle.rk_world.specs.Handovers.{carried_entry}
use Rattle.rk_world.specs.Master.{Master, tablet_at}
use Rattle.rk_world.specs.Premises.{IsMaster}
use Rattle.rk_world.specs.Room.{HasRoom, MOST_NUMBER}
use Rattle.rk_world.specs.World.{World}

-- if a Grant applies, the entry that begins what the target has of the tablet can be spelled
abbrev pub GrantSpells : Master → Grant → Type 0
GrantSpells master grant =
    IfSome (granted (tablet_at master grant.tenure.tablet).handover grant.tenure.term grant.floor)
    (λ handover. IsLawfulEntry (carried_entry handover grant))

-- a message that a master of a lane may take: it is on the wire, and the lane is well formed, has room, and is so little worn that
-- its greatest number may rise by one
pub record StandsOn (w : World) (master number : ℕ) (from to : Node) (body : Body) : Type 0 where
  pub formed : IsWellFormed w
  pub room : HasRoom w
  pub low : w.top + 1 < MOST_NUMBER
  pub there : IsMaster w.coordinator.masters master
  pub found : get w.wire.messages number ≡ Some (record { from = from; to = to; body = body })
