-- Small changes by which a master takes a role of a tablet anew, at a greater term: each other tablet that it has in the range is given up.
use Rattle.std.specs.Prelude.{ℕ, ◌==◌, ◌&&◌, not, List, [], Option, Some, None, length, if◌then◌else◌}
use Rattle.rk_types.specs.Range.{meets}
use Rattle.rk_types.specs.declared.held.Held.{Held}
use Rattle.rk_types.specs.declared.lineage.Member.{Member}
use Rattle.rk_types.specs.declared.range.Range.{Range}
use Rattle.rk_table.specs.Items.{without}
use Rattle.rk_transfer.specs.declared.handover.Handover.{Handover}
use Rattle.rk_transfer.specs.declared.role.Role.TheVariants as roles
use Rattle.rk_message.specs.declared.handover.Prepare.{Prepare}
use Rattle.rk_message.specs.declared.rebuilding.Rebuild.{Rebuild}
use Rattle.rk_world.specs.Gather.{gather_begun}
use Rattle.rk_world.specs.Handovers.{given_up, tablet_prepared}
use Rattle.rk_world.specs.Lineage.{own_member}
use Rattle.rk_world.specs.Rebuilds.{rebuild_begun}
use Rattle.rk_world.specs.Tablet.{Tablet, pulling_from, with_handover, without_merged}
use Rattle.rk_world.specs.World.{World, master_at, with_master}
use Rattle.rk_sound.specs.Small.{put}
use Rattle.rk_sound.specs.View.{View, tablet_seen}

-- what becomes of the tablets of a master when each one but this is given up whose range meets the range
abbrev pub others_given_up : (ℕ → Tablet) → ℕ → Range → ℕ → Tablet
others_given_up tablets number range other =
    if not (other == number) && meets (tablets other).handover.range range then given_up (tablets other) else tablets other

-- a master has these records now, and this of each tablet; the ends that it keeps stay
abbrev pub tablets_taken : View → ℕ → List Held → (ℕ → Tablet) → View
tablets_taken v master records tablets = record v {
  records = put v.records master records;
  handovers = put v.handovers master (λ tablet. (tablets tablet).handover);
  pullings = put v.pullings master (λ tablet. (tablets tablet).pulling);
  gathers = put v.gathers master (λ tablet. (tablets tablet).gather);
  merged = put v.merged master (λ tablet. (tablets tablet).merged_ends);
}

-- a handover of a tablet that is to be granted at a term, with the master's own entries counted from a place on
abbrev pub as_wanting : ℕ → Range → ℕ → Handover → Handover
as_wanting term range from handover =
    record handover { role = roles.Wanting from; term = term; range = range }

-- the tablets of a master that makes ready for one of them
abbrev pub prepared_tablets : View → ℕ → Prepare → ℕ → Tablet
prepared_tablets v master prepare =
    let number = prepare.tenure.tablet in
    let old = tablet_seen v master number in
    put (others_given_up (tablet_seen v master) number prepare.range) number
    (without_merged
    (with_handover old
    (as_wanting prepare.tenure.term prepare.range (length (v.logs master).entries) old.handover)))

-- a master makes ready for a tablet: it drops the items of the range, and each other tablet there is given up
abbrev pub prepared : View → ℕ → Prepare → View
prepared v master prepare =
    tablets_taken v master (without prepare.range (v.records master)) (prepared_tablets v master prepare)

abbrev pub tablet_prepared_in : World → ℕ → Prepare → World
tablet_prepared_in w master prepare = with_master w master (tablet_prepared (master_at w master) prepare)

-- the place from which the own entries of a master count that begins to rebuild a tablet: its place in the lineage, and else the end of
-- its log
abbrev pub begins_from : View → ℕ → Option Member → ℕ
begins_from v master (Some own) = own.from
begins_from v master None = length (v.logs master).entries

-- the records that it keeps: outside the lineage it drops those of the range
abbrev pub items_left : List Held → Range → Option Member → List Held
items_left records range (Some own) = records
items_left records range None = without range records

-- a handover of a tablet that is rebuilt at a term, with the master's own entries counted from a place on
abbrev pub as_rebuilding : ℕ → Range → ℕ → Handover → Handover
as_rebuilding term range from handover =
    record handover { role = roles.Rebuilding from None; term = term; range = range }

-- a tablet that a master begins to rebuild: what was pulled and is not sealed is dropped, and nothing is gathered so far
abbrev pub as_begun : ℕ → Rebuild → ℕ → Tablet → Tablet
as_begun master rebuild from tablet = record tablet {
  handover = as_rebuilding rebuild.tenure.term rebuild.range from tablet.handover;
  pulling = pulling_from tablet.pulling.source;
  gather = gather_begun rebuild.range rebuild.lineage master;
  merged_ends = [];
}

-- the tablets of a master that begins to rebuild one of them
abbrev pub begun_tablets : View → ℕ → Rebuild → ℕ → Tablet
begun_tablets v master rebuild =
    let number = rebuild.tenure.tablet in
    put (others_given_up (tablet_seen v master) number rebuild.range) number
    (as_begun master rebuild (begins_from v master (own_member rebuild.lineage master)) (tablet_seen v master number))

-- a master begins to rebuild a tablet: each other one there is given up, and outside the lineage it drops its items of the range
abbrev pub begun : View → ℕ → Rebuild → View
begun v master rebuild =
    tablets_taken v master (items_left (v.records master) rebuild.range (own_member rebuild.lineage master))
    (begun_tablets v master rebuild)

abbrev pub rebuild_begun_in : World → ℕ → Rebuild → World
rebuild_begun_in w master rebuild = with_master w master (rebuild_begun (master_at w master) rebuild)
