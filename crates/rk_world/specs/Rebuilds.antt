-- How a master rebuilds a tablet from the logs of its lineage.
use Rattle.std.specs.Prelude.{ℕ, suc, ◌==◌, ◌&&◌, if◌then◌else◌, List, [], ◌∷◌, drop, length, Option, Some, None}
use Rattle.rk_types.specs.declared.lineage.Member.{Member}
use Rattle.rk_types.specs.declared.range.Range.{Range}
use Rattle.rk_entry.specs.declared.entry.Entry.{Entry}
use Rattle.rk_entry.specs.declared.entry.Entry.TheVariants as entries
use Rattle.rk_done.specs.Completions.{completions_from, ends_of}
use Rattle.rk_transfer.specs.Handover.{rebuilt, carried}
use Rattle.rk_transfer.specs.declared.handover.Handover.{Handover}
use Rattle.rk_transfer.specs.declared.role.Role.{Role}
use Rattle.rk_transfer.specs.declared.role.Role.TheVariants as roles
use Rattle.rk_message.specs.declared.rebuilding.CopySegment.{CopySegment}
use Rattle.rk_message.specs.declared.rebuilding.Rebuild.{Rebuild}
use Rattle.rk_world.specs.declared.work.Merged.{Merged}
use Rattle.rk_world.specs.declared.work.Reading.{Reading}
use Rattle.rk_world.specs.declared.work.Mark.{Mark}
use Rattle.rk_world.specs.Material.{material_of, side_entries, as_entries}
use Rattle.rk_world.specs.Lineage.{own_member}
use Rattle.rk_world.specs.Gather.{by_member, gather_begun, gathering, is_awaited, next_reading}
use Rattle.rk_world.specs.Merge.{merge}
use Rattle.rk_world.specs.Tablet.{Tablet, pulling_from}
use Rattle.rk_world.specs.RoleTests.{is_gathering}
use Rattle.rk_world.specs.Master.{Master, tablet_at, with_tablet, with_appended, with_all, without_items}
use Rattle.rk_world.specs.Worked.{Worked, changed}
use Rattle.rk_world.specs.Handovers.{is_greater, with_others_given_up}

-- the place from which the own log counts for a tablet that is rebuilt
abbrev pub own_place : Role → ℕ
own_place (roles.Rebuilding from entry) = from
own_place _ = 0

-- the own entries that count for a tablet that is rebuilt
abbrev pub own_material : Master → Tablet → List Entry
own_material master tablet =
    material_of tablet.handover.range (side_entries master.sides)
    (drop (own_place tablet.handover.role) master.log.entries)

-- the entry that closes a rebuild
abbrev pub rebuilt_entry : Tablet → Merged → Entry
rebuilt_entry tablet merged = entries.Carried (record {
  range = tablet.handover.range;
  term = tablet.handover.term;
  floor = merged.floor;
  ends = ends_of (completions_from [] merged.ends);
})

-- a tablet goes on with what was merged
abbrev pub with_merged : Tablet → Merged → Handover → Tablet
with_merged tablet merged handover = record tablet {
  handover = handover;
  completions = completions_from [] merged.ends;
  merged_ends = merged.ends;
}

-- what was gathered is merged: the copies and the entry that closes the rebuild are appended
abbrev pub rebuild_merged : Master → ℕ → Tablet → Merged → Handover → Master
rebuild_merged master number tablet merged handover =
    with_tablet (with_appended (with_all master (as_entries merged.copies)) (rebuilt_entry tablet merged)) number
    (with_merged tablet merged handover)

-- the piece of the log that a merge makes
abbrev pub piece_of : Master → ℕ → Merged → Handover → Mark
piece_of master number merged handover = record {
  master = master.number;
  first = length master.log.entries;
  past = suc (length (with_all master (as_entries merged.copies)).log.entries);
  tablet = number;
  term = handover.term;
}

-- what was gathered is merged, if that move applies, as one piece of the log
abbrev pub merging : Master → ℕ → Tablet → Merged → Option Handover → Worked
merging master number tablet merged None = changed master
merging master number tablet merged (Some handover) = record {
  master = rebuild_merged master number tablet merged handover;
  sends = [];
  served = [];
  marked = piece_of master number merged handover ∷ [];
}

-- all is gathered, and merged: the copies and the entry that closes the rebuild are appended
abbrev pub merged_at : Master → ℕ → Tablet → Merged → Worked
merged_at master number tablet merged =
    let place = length (with_all master (as_entries merged.copies)).log.entries in
    merging master number tablet merged (carried tablet.handover tablet.handover.term place merged.floor)

-- a rebuild goes on: it gathers while there is a segment to read, and then merges
abbrev pub rebuilding_on : Master → ℕ → Option Reading → Worked
rebuilding_on master number (Some reading) = changed master
rebuilding_on master number None =
    let tablet = tablet_at master number in
    let members = by_member tablet.gather (own_material master tablet) in
    merged_at master number tablet (merge (own_material master tablet) members)

-- a rebuild goes on by what it has gathered
abbrev pub rebuild_goes_on : Master → ℕ → Worked
rebuild_goes_on master number = rebuilding_on master number (next_reading (tablet_at master number).gather)

-- the place from which the log of the rebuilding master counts: its place in the lineage, and else the end of its log
abbrev pub begun_from : Master → Option Member → ℕ
begun_from master (Some member) = member.from
begun_from master None = length master.log.entries

-- a master outside the lineage drops the items of the range
abbrev pub without_foreign : Master → Range → Option Member → Master
without_foreign master range (Some member) = master
without_foreign master range None = without_items master range

-- a tablet is rebuilt: what was pulled and is not sealed is dropped, and nothing is gathered so far
abbrev pub with_begun : Master → Rebuild → Option Handover → Master
with_begun master rebuild None = master
with_begun master rebuild (Some handover) =
    let tablet = tablet_at master rebuild.tenure.tablet in
    with_tablet master rebuild.tenure.tablet
    (record tablet {
      handover = handover;
      pulling = pulling_from tablet.pulling.source;
      gather = gather_begun rebuild.range rebuild.lineage master.number;
      merged_ends = [];
    })

-- a rebuild begins
abbrev pub rebuild_begun : Master → Rebuild → Master
rebuild_begun master rebuild =
    let own = own_member rebuild.lineage master.number in
    let from = begun_from master own in
    let number = rebuild.tenure.tablet in
    let now = with_others_given_up (without_foreign master rebuild.range own) number rebuild.range in
    with_begun now rebuild (rebuilt (tablet_at now number).handover rebuild.tenure.term rebuild.range from)

-- a master begins to rebuild a tablet, and goes on by what there is to gather
abbrev pub beginning : Master → Rebuild → Worked
beginning master rebuild = rebuild_goes_on (rebuild_begun master rebuild) rebuild.tenure.tablet

-- a master takes a Rebuild
abbrev pub rebuild_taken : Master → Rebuild → Worked
rebuild_taken master rebuild =
    if is_greater master rebuild.tenure.tablet rebuild.tenure.term rebuild.range
    then beginning master rebuild
    else changed master

-- a tablet gathers a segment
abbrev pub with_gathered : Tablet → CopySegment → Tablet
with_gathered tablet copy = record tablet { gather = gathering tablet.gather copy.master copy.segment copy.bytes }

-- a rebuild gathers a segment
abbrev pub segment_gathered : Master → CopySegment → Master
segment_gathered master copy =
    with_tablet master copy.tenure.tablet (with_gathered (tablet_at master copy.tenure.tablet) copy)

-- a master takes the copy of a segment, if it awaits just that
abbrev pub copy_taken : Master → CopySegment → Worked
copy_taken master copy =
    let tablet = tablet_at master copy.tenure.tablet in
    if is_gathering tablet.handover.role && (tablet.handover.term == copy.tenure.term)
    && is_awaited (next_reading tablet.gather) copy.master copy.segment
    then rebuild_goes_on (segment_gathered master copy) copy.tenure.tablet
    else changed master
