-- What the parts of a tablet in code represent, and what a mutation sees of an item.
use Rattle.std.specs.Prelude.{Option, Some, None, is_some, unwrap_or}
use Rattle.rk_types.specs.declared.held.Held.{Held}
use Rattle.rk_world.specs.Gather.{no_gather}
use Rattle.rk_world.specs.Tablet.{Tablet}
use Rattle.rk_tablet.specs.declared.choice.Seen.{Seen}
use Rattle.rk_tablet.specs.declared.tablet_lane.TabletLane.{TabletLane}

-- the tablet
abbrev pub tablet_of : TabletLane → Tablet
tablet_of lane = record {
  handover = lane.handover;
  completions = lane.completions.completions;
  pulling = record {
    source = lane.source;
    token = lane.progress;
    batches = lane.batches;
    hashes = lane.wanted;
    sides = lane.sides;
    sealed = lane.sealed;
  };
  gather = unwrap_or lane.gather no_gather;
  merged_ends = lane.merged_ends;
}

-- what a mutation sees of an item
abbrev pub seen_of : Option Held → Option Seen
seen_of None = None
seen_of (Some item) = Some (record { version = item.version; is_live = is_some item.value })
