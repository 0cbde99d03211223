-- The tablets of a master in code, by number.
use Rattle.std.specs.Prelude.{ℕ}
use Rattle.rk_tablet.specs.declared.tablet_lane.TabletLane.{TabletLane}

-- a tablet with its number
abbrev pub Row : Type 0
Row = ℕ × TabletLane
