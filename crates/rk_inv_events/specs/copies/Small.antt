-- A Copy that reaches a master, whether the master awaits it, and what it reads next.
use Rattle.std.specs.Prelude.{ℕ, ◌==◌, ◌&&◌, Bool, Option}
use Rattle.rk_types.specs.declared.node.Node.TheVariants as nodes
use Rattle.rk_message.specs.declared.message.Body.TheVariants as bodies
use Rattle.rk_message.specs.declared.message.Message.{Message}
use Rattle.rk_message.specs.declared.rebuilding.CopySegment.{CopySegment}
use Rattle.rk_world.specs.declared.work.Reading.{Reading}
use Rattle.rk_world.specs.Gather.{is_awaited, next_reading}
use Rattle.rk_world.specs.Master.{Master, tablet_at}
use Rattle.rk_world.specs.Rebuilds.{with_gathered}
use Rattle.rk_world.specs.RoleTests.{is_gathering}

-- a Copy from a backup to a master
abbrev pub copy_message : ℕ → ℕ → CopySegment → Message
copy_message backup master copy = record { from = nodes.Backup backup; to = nodes.Master master; body = bodies.Copy copy }

-- whether a master gathers for the tablet at the copy's term, and reads that segment next
abbrev pub awaits : Master → CopySegment → Bool
awaits master copy =
    let tablet = tablet_at master copy.tenure.tablet in
    is_gathering tablet.handover.role && (tablet.handover.term == copy.tenure.term)
    && is_awaited (next_reading tablet.gather) copy.master copy.segment

-- what a master reads next for the tablet once it has gathered the copy; none if all is gathered
abbrev pub next_after : Master → CopySegment → Option Reading
next_after master copy = next_reading (with_gathered (tablet_at master copy.tenure.tablet) copy).gather
