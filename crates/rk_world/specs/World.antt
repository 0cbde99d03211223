-- The world of a lane: what all its nodes know, and what lies between them.
use Rattle.std.specs.Prelude.{ℕ, ◌==◌, Bool, not, ◌&&◌, nat_le, max, List, [], ◌∷◌, ◌++◌, filter, fold, map, replicate, sum, Option, Some, None}
use Rattle.std.specs.List.{flat_map, list_any, range_with_len}
use Rattle.rk_types.specs.NumberMap.{NumberMap, get_or, insert}
use Rattle.rk_types.specs.declared.call.Call.{Call}
use Rattle.rk_types.specs.declared.held.Held.{Held}
use Rattle.rk_outside.specs.Segments.{Segments}
use Rattle.rk_log.specs.Known.{nothing}
use Rattle.rk_log.specs.Log.{Log}
use Rattle.rk_message.specs.Wire.{with_message, silent, Traffic}
use Rattle.rk_message.specs.declared.message.Message.{Message}
use Rattle.rk_world.specs.Base.{Base, no_base}
use Rattle.rk_world.specs.Tablet.{Tablet}
use Rattle.rk_world.specs.Master.{Master, new_master, tablet_at, log_bytes}
use Rattle.rk_world.specs.Coordinator.{Coordinator, new_coordinator}
use Rattle.rk_world.specs.Backup.{no_segments}
use Rattle.rk_world.specs.Journal.{last_stamp}
use Rattle.rk_world.specs.Ledger.{Ledger, new_ledger, marks_of, seen_of}
use Rattle.rk_world.specs.Written.{Written, written_by}

-- the world of a lane: its number; its masters, crashed ones too; how many backups it has, and what each of them stores, if its
-- replica reports that; the coordinator; the wire; the ledger; the masters that have crashed; the greatest number in it so far; and
-- what its history starts from
pub record World : Type 0 where
  pub lane : ℕ
  pub masters : NumberMap Master
  pub backup_count : ℕ
  pub backups : NumberMap Segments
  pub coordinator : Coordinator
  pub wire : Traffic
  pub ledger : Ledger
  pub crashed : List ℕ
  pub top : ℕ
  pub base : Base

-- masters that know nothing yet, each with so many backups
abbrev pub new_masters : ℕ → ℕ → NumberMap Master
new_masters masters backups =
    map (λ number. (number, new_master number (replicate backups nothing))) (range_with_len 1 masters)

-- backups that store nothing yet
abbrev pub new_backups : ℕ → NumberMap Segments
new_backups backups = map (λ number. (number, no_segments)) (range_with_len 1 backups)

-- the lane of a number in which nothing has happened, with so many masters and backups; its history starts from nothing
abbrev pub new_world : ℕ → ℕ → ℕ → World
new_world lane masters backups = record {
  lane = lane;
  masters = new_masters masters backups;
  backup_count = backups;
  backups = new_backups backups;
  coordinator = new_coordinator masters;
  wire = silent;
  ledger = new_ledger;
  crashed = [];
  top = 0;
  base = no_base;
}

-- a master
abbrev pub master_at : World → ℕ → Master
master_at w number = get_or (new_master number []) w.masters number

-- what a backup stores
abbrev pub backup_at : World → ℕ → Segments
backup_at w number = get_or no_segments w.backups number

-- whether a master has crashed
abbrev pub has_crashed : World → ℕ → Bool
has_crashed w master = list_any (λ crashed. crashed == master) w.crashed

-- the masters that have crashed, by rising number
abbrev pub crashed_masters : World → List ℕ
crashed_masters w = filter (has_crashed w) (map (λ entry. entry.0) w.masters)

-- the masters that live, by rising number
abbrev pub live_masters : World → NumberMap Master
live_masters w = filter (λ entry. not (has_crashed w entry.0)) w.masters

-- a master is so
abbrev pub with_master : World → ℕ → Master → World
with_master w number master = record w { masters = insert w.masters number master }

-- a backup, if it reports what it stores, stores this as well
abbrev pub with_stored_by : World → ℕ → (Segments → Segments) → Option Segments → World
with_stored_by w number store None = w
with_stored_by w number store (Some segments) = record w { backups = insert w.backups number (store segments) }

-- whether a backup is one of the lane's
abbrev pub is_backup : World → ℕ → Bool
is_backup w number = nat_le 1 number && nat_le number w.backup_count

-- the coordinator is so
abbrev pub with_coordinator : World → Coordinator → World
with_coordinator w coordinator = record w { coordinator = coordinator }

-- the wire is so
abbrev pub with_wire : World → Traffic → World
with_wire w wire = record w { wire = wire }

-- messages are sent, one after the other
abbrev pub with_all_sent : World → List Message → World
with_all_sent w messages = with_wire w (fold (λ wire message. with_message message wire) w.wire messages)

-- the ledger is so
abbrev pub with_ledger : World → Ledger → World
with_ledger w ledger = record w { ledger = ledger }

-- a master stops for ever; its log stays as it is
abbrev pub with_crash : World → ℕ → World
with_crash w master = record w { crashed = w.crashed ++ master ∷ [] }

-- the greatest of numbers, and 0
abbrev pub greatest : List ℕ → ℕ
greatest numbers = fold max 0 numbers

-- the counters of a master's tablets
abbrev pub counters_of : Master → List ℕ
counters_of master = map (λ entry. entry.1.handover.counter) master.tablets

-- the numbers in a world that may grow: how many messages were sent, the last stamp, what clients had seen, the
-- terms of rows and the counters of tablets; each version, floor and term elsewhere is at most one of these
abbrev pub standing : World → List ℕ
standing w =
    w.wire.sent ∷ last_stamp w.ledger.journal ∷ map (λ entry. seen_of entry.1) w.ledger.clients
    ++ map (λ row. row.term) w.coordinator.rows
    ++ flat_map (λ entry. counters_of entry.1) w.masters

-- the greatest number in the world so far, with those that are in it now
abbrev pub with_top : World → World
with_top w = record w { top = max w.top (greatest (standing w)) }

-- how many bytes the masters' segments have, crashed ones too
abbrev pub bytes_of_logs : World → ℕ
bytes_of_logs w = sum (map (λ entry. log_bytes entry.1) w.masters)

-- whether a master lives
abbrev pub lives : World → ℕ → Bool
lives w master = not (has_crashed w master)

-- a master's log
abbrev pub log_in : World → ℕ → Log
log_in w master = (master_at w master).log

-- a master's records
abbrev pub records_in : World → ℕ → List Held
records_in w master = (master_at w master).records

-- the calls whose entries a master has not applied
abbrev pub calls_in : World → ℕ → NumberMap Call
calls_in w master = (master_at w master).calls

-- what a master has of a tablet
abbrev pub tablet_in : World → ℕ → ℕ → Tablet
tablet_in w master tablet = tablet_at (master_at w master) tablet

-- what a master has written
abbrev pub written_in : World → ℕ → Written
written_in w master = written_by (master_at w master) (marks_of w.ledger master)
