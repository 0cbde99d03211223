-- Small changes that give a row another lineage, and what they make of a view.
use Rattle.std.specs.Prelude.{ℕ, not, filter, List, ◌++◌}
use Rattle.rk_types.specs.NumberMap.{NumberMap}
use Rattle.rk_types.specs.declared.history.Placed.{Placed}
use Rattle.rk_tablet_map.specs.Rows.{replaced}
use Rattle.rk_tablet_map.specs.declared.row.Row.{Row}
use Rattle.rk_world.specs.Coordinator.{Handed}
use Rattle.rk_world.specs.CoordinatorStep.{row_moved, row_owned}
use Rattle.rk_world.specs.Marks.{is_mark_of}
use Rattle.rk_world.specs.Written.{Written}
use Rattle.rk_world.specs.World.{World, with_coordinator}
use Rattle.rk_sound.specs.View.{View}

-- a row takes another lineage, and this is what sources have handed over now
abbrev pub lineage_taken : View → Row → NumberMap Handed → View
lineage_taken v row handed = record v { rows = replaced row.tablet row v.rows; handed = handed }

-- a row moves
abbrev pub row_moved_in : World → Row → ℕ → ℕ → ℕ → ℕ → Handed → World
row_moved_in w row source sfrom target dfrom handed =
    with_coordinator w (row_moved w.coordinator row source sfrom target dfrom handed)

-- a row is owned by a master that took it over, from a place of its log on
abbrev pub row_owned_in : World → Row → ℕ → ℕ → World
row_owned_in w row master from = with_coordinator w (row_owned w.coordinator row master from)

-- what a master has written, without the marks of a tablet up to a term
abbrev pub without_marks_of : ℕ → ℕ → Written → Written
without_marks_of tablet term written =
    record written { marks = filter (λ mark. not (is_mark_of tablet term mark)) written.marks }

-- the marks of a tablet up to a term are taken away
abbrev pub marks_taken : View → ℕ → ℕ → View
marks_taken v tablet term = record v { written = λ master. without_marks_of tablet term (v.written master) }

-- a rebuild is taken: a row takes the lineage of the master that rebuilt it, the marks of its tablet are gone, and these records are made
abbrev pub rebuilt_taken : View → Row → List Placed → View
rebuilt_taken v row made = record (marks_taken v row.tablet row.term) {
  rows = replaced row.tablet row v.rows;
  journal = v.journal ++ made;
}
