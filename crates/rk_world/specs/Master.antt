-- A master: its log, its records, and what it has of each tablet; and the small changes of these.
use Rattle.std.specs.Prelude.{ℕ, ◌+◌, ◌==◌, ◌&&◌, Bool, not, List, [], ◌∷◌, ◌++◌, length, drop, find, map, fold, Option, sum}
use Rattle.std.specs.List.{list_any}
use Rattle.rk_types.specs.NumberMap.{NumberMap, get_or, insert}
use Rattle.rk_types.specs.Range.{meets}
use Rattle.rk_types.specs.declared.call.Call.{Call}
use Rattle.rk_types.specs.declared.held.Held.{Held}
use Rattle.rk_types.specs.declared.range.Range.{Range}
use Rattle.rk_entry.specs.Entries.{spelled_all}
use Rattle.rk_entry.specs.declared.entry.Entry.{Entry}
use Rattle.rk_entry.specs.declared.entry.Entry.TheVariants as entries
use Rattle.rk_log.specs.Known.{Known}
use Rattle.rk_log.specs.Log.{Log, new_log, with_entry, with_side, with_told, segment_bytes}
use Rattle.rk_table.specs.Items.{with_newer, without}
use Rattle.rk_transfer.specs.Handover.{is_serving}
use Rattle.rk_world.specs.Ranges.{has_key}
use Rattle.rk_world.specs.Material.{as_entries}
use Rattle.rk_world.specs.Tablet.{Tablet, no_tablet}

-- a master: its number; its log, with the items of its side segments; how many first entries are applied; the calls whose entries are
-- not, by the place of the entry; the records, in scan order: the applied items, and what was pulled; and what it has of each tablet
pub record Master : Type 0 where
  pub number : ℕ
  pub log : Log
  pub sides : List (List Held)
  pub applied : ℕ
  pub calls : NumberMap Call
  pub records : List Held
  pub tablets : NumberMap Tablet

-- a master that knows nothing yet, with so many backups
abbrev pub new_master : ℕ → List Known → Master
new_master number known = record {
  number = number;
  log = new_log known;
  sides = [];
  applied = 0;
  calls = [];
  records = [];
  tablets = [];
}

-- what it has of a tablet; of a tablet that it does not know, the role is Absent and the term 0
abbrev pub tablet_at : Master → ℕ → Tablet
tablet_at master tablet = get_or no_tablet master.tablets tablet

-- the entries that are not applied
abbrev pub staged : Master → List Entry
staged master = drop master.applied master.log.entries

-- whether an entry that is not applied is of a range: an item or a refusal whose key is in it, or another entry whose
-- range meets it
abbrev pub touches : Range → Entry → Bool
touches range (entries.Held held) = has_key range held.table held.key
touches range (entries.Refused refused) = has_key range refused.table refused.key
touches range (entries.Carried carried) = meets carried.range range
touches range (entries.Joined joined) = meets joined.range range

-- whether nothing of a range is staged
abbrev pub is_settled : Master → Range → Bool
is_settled master range = not (list_any (touches range) (staged master))

-- whether the call of a client with a seq is staged
abbrev pub is_staged : Master → ℕ → ℕ → Bool
is_staged master client seq = list_any (λ entry. entry.1.client == client && (entry.1.seq == seq)) master.calls

-- whether a tablet is served here and has the key
abbrev pub serves_key : ℕ → List ℕ → Tablet → Bool
serves_key table key tablet = is_serving tablet.handover.role && has_key tablet.handover.range table key

-- the tablet that is served here and has the key, with its number
abbrev pub serving : Master → ℕ → List ℕ → Option (ℕ × Tablet)
serving master table key = find (λ entry. serves_key table key entry.1) master.tablets

-- a tablet is so
abbrev pub with_tablet : Master → ℕ → Tablet → Master
with_tablet master number tablet = record master { tablets = insert master.tablets number tablet }

-- an entry is put at the end of the log
abbrev pub with_appended : Master → Entry → Master
with_appended master entry = record master { log = with_entry master.log entry }

-- entries are put at the end of the log, one after the other
abbrev pub with_all : Master → List Entry → Master
with_all master entries = fold with_appended master entries

-- a call waits for the entry that is appended next
abbrev pub with_call : Master → Call → Master
with_call master call = record master { calls = insert master.calls (length master.log.entries) call }

-- a side segment with these items becomes known to the log
abbrev pub with_side_segment : Master → List Held → Master
with_side_segment master items = record master {
  log = with_side master.log (spelled_all (as_entries items));
  sides = master.sides ++ items ∷ [];
}

-- a backup reported that it holds so many bytes of a segment
abbrev pub with_known : Master → ℕ → ℕ → ℕ → Master
with_known master backup segment length = record master { log = with_told master.log backup segment length }

-- an item is put into the records, if it is newer than what is there
abbrev pub with_item : Master → Held → Master
with_item master item = record master { records = with_newer item master.records }

-- the items of a range are dropped from the records
abbrev pub without_items : Master → Range → Master
without_items master range = record master { records = without range master.records }

-- how many bytes the side logs of a tablet have that are not sealed
abbrev pub unsealed_bytes : Tablet → ℕ
unsealed_bytes tablet = sum (map (λ items. length (spelled_all (as_entries items))) tablet.pulling.sides)

-- how many bytes are in its segments: the main ones, the side ones, and those of side logs that are not sealed
abbrev pub log_bytes : Master → ℕ
log_bytes master = segment_bytes master.log + sum (map (λ entry. unsealed_bytes entry.1) master.tablets)
