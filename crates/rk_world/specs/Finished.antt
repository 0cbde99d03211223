-- Finished: what a migration leaves once its target has joined.
use Rattle.std.specs.Prelude.{◌≡◌, List, Some, drop, ℕ, None, Ok}
use Rattle.rk_types.specs.NumberMap.{get}
use Rattle.rk_types.specs.declared.lineage.Member.{Member}
use Rattle.rk_types.specs.declared.node.Node.TheVariants as nodes
use Rattle.rk_types.specs.declared.range.Range.{Range}
use Rattle.rk_entry.specs.declared.entry.Entry.{Entry}
use Rattle.rk_tablet_map.specs.Rows.{row_of}
use Rattle.rk_tablet_map.specs.declared.phase.Phase.TheVariants.{Owned, Moving}
use Rattle.rk_tablet_map.specs.declared.row.Row.{Row}
use Rattle.rk_overlay.specs.Live.{live as live_items}
use Rattle.rk_overlay.specs.Overlay.{overlay}
use Rattle.rk_message.specs.declared.message.Body.TheVariants as bodies
use Rattle.rk_message.specs.declared.message.Message.{Message}
use Rattle.rk_world.specs.declared.event.Event.TheVariants as events
use Rattle.rk_world.specs.Ranges.{AgreeIn}
use Rattle.rk_world.specs.Ends.{items_of}
use Rattle.rk_world.specs.Material.{counting}
use Rattle.rk_world.specs.Coordinator.{row_tenure}
use Rattle.rk_world.specs.Backup.{Gave}
use Rattle.rk_world.specs.Written.{applied_entries, member_truth}
use Rattle.rk_world.specs.World.{World, written_in}
use Rattle.rk_world.specs.Step.{Stepped, step}

-- what counts of the target alone has the records of what counts of the source, overlaid by the target's own writes
abbrev pub IsFinished : Range → List Entry → List Entry → List Entry → Type 0
IsFinished range source target own =
    AgreeIn range (live_items (items_of target)) (live_items (overlay (items_of source) (items_of own)))

-- the target's own writes: its applied main entries from its place on that count
abbrev pub own_entries : World → Row → Member → List Entry
own_entries w row member =
    counting row.range (drop member.from (applied_entries (written_in w member.master)))

-- the message of this number reports to the coordinator that the target of a row has all
pub record TellsJoined (w : World) (number : ℕ) (row : Row) (target : ℕ) : Type 0 where
  pub message : Message
  pub there : get w.wire.messages number ≡ Some message
  pub from : message.from ≡ nodes.Master target
  pub to : message.to ≡ nodes.Coordinator
  pub body : message.body ≡ bodies.Joined (row_tenure row)

-- the event that ends a migration: the delivery of that message while the row moves makes this world, in which its target owns
-- the row, and the migration is finished
pub record Finishes (before : World) (number : ℕ) (stepped : Stepped) (row : Row) (source target : Member) : Type 0 where
  pub has_row : row_of before.coordinator.rows row.tablet ≡ Some row
  pub moving : row.phase ≡ Moving source.master source.from target.master target.from
  pub told : TellsJoined before number row target.master
  pub step_is : step before (events.Deliver number) (Gave None) ≡ Ok stepped
  pub owned :
      row_of stepped.world.coordinator.rows row.tablet ≡ Some (record row { phase = Owned target.master target.from })
  pub finished :
      IsFinished row.range (member_truth (written_in before) row.range source)
      (member_truth (written_in stepped.world) row.range target) (own_entries before row target)
