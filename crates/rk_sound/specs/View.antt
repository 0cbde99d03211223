-- View: what the invariant sees of a world, and nothing more. A change of a world is first a change of its view, and its laws are
-- over views: what the change leaves alone is then the same by computing it.
use Rattle.std.specs.Prelude.{ℕ, Bool, List, Option}
use Rattle.rk_types.specs.NumberMap.{NumberMap}
use Rattle.rk_types.specs.declared.call.Call.{Call}
use Rattle.rk_types.specs.declared.call.Ended.{Ended}
use Rattle.rk_types.specs.declared.held.Held.{Held}
use Rattle.rk_types.specs.declared.history.Placed.{Placed}
use Rattle.rk_outside.specs.Segments.{Segments}
use Rattle.rk_entry.specs.declared.entry.Entry.{Entry}
use Rattle.rk_log.specs.Log.{Log}
use Rattle.rk_done.specs.Completions.{Completions}
use Rattle.rk_transfer.specs.declared.handover.Handover.{Handover}
use Rattle.rk_tablet_map.specs.declared.row.Row.{Row}
use Rattle.rk_message.specs.declared.message.Message.{Message}
use Rattle.rk_world.specs.Base.{Base}
use Rattle.rk_world.specs.Gather.{Gather}
use Rattle.rk_world.specs.Tablet.{Pulling, Tablet}
use Rattle.rk_world.specs.Coordinator.{Handed}
use Rattle.rk_world.specs.declared.ledger.LastCall.{LastCall}
use Rattle.rk_world.specs.Ledger.{asked_by}
use Rattle.rk_world.specs.Written.{Written, truth_of, rest_of}
use Rattle.rk_world.specs.World.{World, master_at, backup_at, lives, log_in, records_in, calls_in, tablet_in, written_in}

-- what is seen of a world: the number of its lane, and what its history starts from; how many masters and backups it has; what the
-- coordinator keeps; of each master its number, its log, what it has written, its records and the calls that wait; of each of its
-- tablets the handover, the last ends, what it pulls, what it gathers and the ends that it merged; what backups store; who lives; and
-- what the ledger and the wire have
pub record View : Type 0 where
  pub lane : ℕ
  pub base : Base
  pub masters : ℕ
  pub backups : ℕ
  pub rows : List Row
  pub noticed : List ℕ
  pub handed : NumberMap Handed
  pub numbers : ℕ → ℕ
  pub logs : ℕ → Log
  pub written : ℕ → Written
  pub records : ℕ → List Held
  pub calls : ℕ → NumberMap Call
  pub handovers : ℕ → ℕ → Handover
  pub completions : ℕ → ℕ → Completions
  pub pullings : ℕ → ℕ → Pulling
  pub gathers : ℕ → ℕ → Gather
  pub merged : ℕ → ℕ → List Ended
  pub stored : ℕ → Segments
  pub live : ℕ → Bool
  pub journal : List Placed
  pub asked : ℕ → Option LastCall
  pub wire : NumberMap Message
  pub requests : NumberMap Message

-- what is seen of a world
abbrev pub view : World → View
view w = record {
  lane = w.lane;
  base = w.base;
  masters = w.coordinator.masters;
  backups = w.backup_count;
  rows = w.coordinator.rows;
  noticed = w.coordinator.noticed;
  handed = w.coordinator.handed;
  numbers = λ master. (master_at w master).number;
  logs = log_in w;
  written = written_in w;
  records = records_in w;
  calls = calls_in w;
  handovers = λ master tablet. (tablet_in w master tablet).handover;
  completions = λ master tablet. (tablet_in w master tablet).completions;
  pullings = λ master tablet. (tablet_in w master tablet).pulling;
  gathers = λ master tablet. (tablet_in w master tablet).gather;
  merged = λ master tablet. (tablet_in w master tablet).merged_ends;
  stored = backup_at w;
  live = lives w;
  journal = w.ledger.journal;
  asked = asked_by w.ledger;
  wire = w.wire.messages;
  requests = w.ledger.requests;
}

-- what is seen of a tablet of a master
abbrev pub tablet_seen : View → ℕ → ℕ → Tablet
tablet_seen v master tablet = record {
  handover = v.handovers master tablet;
  completions = v.completions master tablet;
  pulling = v.pullings master tablet;
  gather = v.gathers master tablet;
  merged_ends = v.merged master tablet;
}

-- the truth of each row
abbrev pub truths : View → Row → List Entry
truths v = truth_of v.base v.written

-- the rest of each row
abbrev pub rests : View → Row → List Entry
rests v = rest_of v.written
