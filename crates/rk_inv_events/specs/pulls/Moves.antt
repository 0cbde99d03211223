-- The condition under which a target seals behind the last batch that it takes.
use Rattle.std.specs.Prelude.{◌≤◌, ℕ, ◌+◌, ◌^◌, ◌%◌, length}
use Rattle.rk_entry.specs.declared.lists.TheConstants.{FIRST_SIDE_SEGMENT}
use Rattle.rk_message.specs.declared.pulling.Pulled.{Pulled}
use Rattle.rk_world.specs.Ends.{items_of}
use Rattle.rk_world.specs.Master.{Master, tablet_at}
use Rattle.rk_world.specs.Pulls.{replay}
use Rattle.rk_world.specs.SideLogs.{sealed_sides}
use Rattle.rk_world.specs.World.{World, log_in, master_at}
use Rattle.rk_sound.specs.View.{view}
use Rattle.rk_sound.specs.Changes.{HasSegmentLeft}
use Rattle.rk_inv_tablets.specs.seal.Moves.{AreSealedThere}

-- a target once it replayed a batch, by the worker whose turn it is
abbrev pub batch_replayed : Master → Pulled → Master
batch_replayed master pulled =
    replay master pulled.tenure.tablet ((tablet_at master pulled.tenure.tablet).pulling.batches % 4) (items_of pulled.entries)

-- a target may seal behind a batch: what its master's targets have sealed is there, the side segments that it fills can be numbered, and
-- the log has room for the entry that closes the role
pub record MaySealBehind (w : World) (master : ℕ) (pulled : Pulled) : Type 0 where
  pub there : AreSealedThere (view w) master
  pub sides :
      FIRST_SIDE_SEGMENT
      + (length (log_in w master).sides
      + length (sealed_sides (tablet_at (batch_replayed (master_at w master) pulled) pulled.tenure.tablet).pulling.sides))
      ≤ 2 ^ 32
  pub room : HasSegmentLeft (log_in w master)
