-- What masters have written, and what of it counts for a tablet: its truth, and the rest behind it.
use Rattle.std.specs.Prelude.{ℕ, max, List, [], ◌∷◌, take}
use Rattle.std.specs.List.{flat_map}
use Rattle.rk_types.specs.declared.held.Held.{Held}
use Rattle.rk_types.specs.declared.lineage.Member.{Member}
use Rattle.rk_types.specs.declared.range.Range.{Range}
use Rattle.rk_entry.specs.declared.entry.Entry.{Entry}
use Rattle.rk_tablet_map.specs.Phase.{lineage_of}
use Rattle.rk_tablet_map.specs.declared.row.Row.{Row}
use Rattle.rk_world.specs.declared.work.Mark.{Mark}
use Rattle.rk_world.specs.Marks.{unmarked_from}
use Rattle.rk_world.specs.Material.{counting, log_material}
use Rattle.rk_world.specs.Base.{Base, base_entries}
use Rattle.rk_world.specs.Master.{Master}

-- what a master has written: the entries of its log, how many first ones are applied, the items of its side segments,
-- and the pieces of the log that bear a mark
pub record Written : Type 0 where
  pub entries : List Entry
  pub applied : ℕ
  pub sides : List (List Held)
  pub marks : List Mark

-- what this master has written, with these marks of its log
abbrev pub written_by : Master → List Mark → Written
written_by master marks = record {
  entries = master.log.entries;
  applied = master.applied;
  sides = master.sides;
  marks = marks;
}

-- the applied entries
abbrev pub applied_entries : Written → List Entry
applied_entries written = take written.applied written.entries

-- what counts for a range of all that a member of a lineage has written, applied or not
abbrev pub member_material : (ℕ → Written) → Range → Member → List Entry
member_material written range member =
    log_material range (written member.master).marks (written member.master).sides member.from
    (written member.master).entries

-- what counts for a range of what is applied at a member
abbrev pub member_truth : (ℕ → Written) → Range → Member → List Entry
member_truth written range member =
    log_material range (written member.master).marks (written member.master).sides member.from
    (applied_entries (written member.master))

-- what a lineage has of a range, member by member; a row without a lineage has what its history starts from
abbrev pub lineage_truth : Base → (ℕ → Written) → Range → List Member → List Entry
lineage_truth base written range [] = base_entries base range
lineage_truth base written range (member ∷ members) = flat_map (member_truth written range) (member ∷ members)

-- the truth of a row: what counts for it of the applied parts of its lineage's logs
abbrev pub truth_of : Base → (ℕ → Written) → Row → List Entry
truth_of base written row = lineage_truth base written row.range (lineage_of row.phase)

-- what counts for a range of what is not applied at a member
abbrev pub member_rest : (ℕ → Written) → Range → Member → List Entry
member_rest written range member =
    counting range
    (unmarked_from (written member.master).marks (max member.from (written member.master).applied)
    (written member.master).entries)

-- what is not applied at the last member of a lineage
abbrev pub lineage_rest : (ℕ → Written) → Range → List Member → List Entry
lineage_rest written range [] = []
lineage_rest written range (member ∷ []) = member_rest written range member
lineage_rest written range (member ∷ next ∷ more) = lineage_rest written range (next ∷ more)

-- the rest of a row: what counts for it behind its truth, at the last member of its lineage
abbrev pub rest_of : (ℕ → Written) → Row → List Entry
rest_of written row = lineage_rest written row.range (lineage_of row.phase)
