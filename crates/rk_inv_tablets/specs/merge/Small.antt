-- The change that a merge makes of a view and of a world: the copies and the entry that closes the rebuild are appended as one piece,
-- which bears a mark.
use Rattle.std.specs.Prelude.{ℕ, suc, ◌+◌, List, [], ◌∷◌, ◌++◌, length, Some, drop}
use Rattle.rk_entry.specs.declared.entry.Entry.{Entry}
use Rattle.rk_log.specs.Log.{Log}
use Rattle.rk_done.specs.Completions.{completions_from}
use Rattle.rk_transfer.specs.declared.handover.Handover.{Handover}
use Rattle.rk_transfer.specs.declared.role.Role.TheVariants as roles
use Rattle.rk_world.specs.declared.work.Mark.{Mark}
use Rattle.rk_world.specs.declared.work.Merged.{Merged}
use Rattle.rk_world.specs.Gather.{by_member}
use Rattle.rk_world.specs.Ledger.{with_marks}
use Rattle.rk_world.specs.Master.{with_all}
use Rattle.rk_world.specs.Material.{as_entries, material_of, side_entries}
use Rattle.rk_world.specs.Merge.{merge}
use Rattle.rk_world.specs.Rebuilds.{own_material, own_place, piece_of, rebuild_merged}
use Rattle.rk_world.specs.Written.{Written}
use Rattle.rk_world.specs.World.{World, master_at, tablet_in, with_ledger, with_master}
use Rattle.rk_sound.specs.View.{View}
use Rattle.rk_sound.specs.Rebuilds.{closing_carried}
use Rattle.rk_sound.specs.Small.{put, put2}

-- a log with more entries at its end
abbrev pub with_entries : Log → List Entry → Log
with_entries log list = record log { entries = log.entries ++ list }

-- what a master has written, with a piece more that bears a mark
abbrev pub with_piece : Written → List Entry → Mark → Written
with_piece written list mark =
    record written { entries = written.entries ++ list; marks = written.marks ++ mark ∷ [] }

-- what a merge appends: the copies, and the entry that closes the rebuild
abbrev pub piece_entries : Handover → Merged → List Entry
piece_entries handover merged = as_entries merged.copies ++ closing_carried handover merged ∷ []

-- the mark of a piece with so many copies that begins at a place
abbrev pub piece_mark : ℕ → ℕ → ℕ → ℕ → ℕ → Mark
piece_mark master tablet term first copies = record {
  master = master;
  first = first;
  past = suc (first + copies);
  tablet = tablet;
  term = term;
}

-- a handover of a master that merged: its closing entry is at a place, and the floor is the counter
abbrev pub as_merged : ℕ → ℕ → Handover → Handover
as_merged place floor handover =
    record handover { role = roles.Rebuilding (own_place handover.role) (Some place); counter = floor }

-- what a master has of its own for a tablet that it rebuilds
abbrev pub own_entries : View → ℕ → ℕ → List Entry
own_entries v master tablet =
    material_of (v.handovers master tablet).range (side_entries (v.written master).sides)
    (drop (own_place (v.handovers master tablet).role) (v.written master).entries)

-- what it merges
abbrev pub merge_in : View → ℕ → ℕ → Merged
merge_in v master tablet =
    merge (own_entries v master tablet) (by_member (v.gathers master tablet) (own_entries v master tablet))

-- this is merged for a tablet at a master
abbrev pub merged_view : View → ℕ → ℕ → Merged → View
merged_view v master tablet merged =
    let handover = v.handovers master tablet in
    let first = length (v.written master).entries in
    record v {
      logs = put v.logs master (with_entries (v.logs master) (piece_entries handover merged));
      written =
          put v.written master
          (with_piece (v.written master) (piece_entries handover merged)
          (piece_mark master tablet handover.term first (length merged.copies)));
      handovers = put2 v.handovers master tablet (as_merged (first + length merged.copies) merged.floor handover);
      completions = put2 v.completions master tablet (completions_from [] merged.ends);
      merged = put2 v.merged master tablet merged.ends;
    }

-- what was gathered for a tablet is merged at a master
abbrev pub rebuild_merged_in : World → ℕ → ℕ → World
rebuild_merged_in w master tablet =
    let before = master_at w master in
    let kept = tablet_in w master tablet in
    let merged = merge (own_material before kept) (by_member kept.gather (own_material before kept)) in
    let handover = as_merged (length (with_all before (as_entries merged.copies)).log.entries) merged.floor kept.handover in
    with_ledger (with_master w master (rebuild_merged before tablet kept merged handover))
    (with_marks w.ledger (piece_of before tablet merged handover ∷ []))
