-- A world in which one master has worked so far, a Stored that was sent to it, and what it has when it lets its tablets go on.
use Rattle.std.specs.Prelude.{◌≡◌, ◌<◌, ◌+◌, ℕ, true, All, length}
use Rattle.rk_types.specs.NumberMap.{IsInOrder, NumberMap}
use Rattle.rk_types.specs.declared.node.Node.TheVariants as nodes
use Rattle.rk_types.specs.Range.{meets}
use Rattle.rk_entry.specs.declared.lists.TheConstants.{FIRST_SIDE_SEGMENT}
use Rattle.rk_log.specs.Cut.{cut}
use Rattle.rk_log.specs.Log.{Log}
use Rattle.rk_message.specs.declared.message.Body.TheVariants as bodies
use Rattle.rk_message.specs.declared.message.Message.{Message}
use Rattle.rk_message.specs.declared.replication.Stored.{Stored}
use Rattle.rk_world.specs.Formed.{side_waits}
use Rattle.rk_world.specs.Ledger.{Ledger}
use Rattle.rk_world.specs.Master.{Master}
use Rattle.rk_world.specs.Tablet.{Tablet}
use Rattle.rk_world.specs.World.{World, with_ledger, with_master}

-- a world in which a master and the ledger are so
abbrev pub with_work : World → ℕ → Master → Ledger → World
with_work w master now ledger = with_ledger (with_master w master now) ledger

-- a Stored that a backup sent to a master
abbrev pub stored_message : ℕ → ℕ → Stored → Message
stored_message backup master stored =
    record { from = nodes.Backup backup; to = nodes.Master master; body = bodies.Stored stored }

-- what a master has when it lets its tablets go on: they are in order, no range is empty, and the log has room for the entries that close
-- roles, fewer than the side segments that its targets wait for
pub record MayGoOn (log : Log) (tablets : NumberMap Tablet) : Type 0 where
  pub order : IsInOrder tablets
  pub some : All (λ entry. meets entry.1.handover.range entry.1.handover.range ≡ true) tablets
  pub room : length (cut log.entries) + side_waits tablets < FIRST_SIDE_SEGMENT
