-- The rows that change at a notice, one after the other, are all rows changed at once.
use Rattle.std.proofs.Common.{◌≡◌, ℕ, ◌+◌, ◌<◌, true, false, ◌==◌, List, [], ◌∷◌, ◌++◌, map, Option, Some, None, refl, ap, ◌∙◌, arith}
use Rattle.std.specs.List.{AllByRecursion, flat_map}
use Rattle.std.specs.Option.{option_to_list}
use Rattle.std.proofs.lemmas.Bool.{eq-eqb, ne_eqb}
use Rattle.rk_tablet_map.specs.declared.phase.Phase.{Phase}
use Rattle.rk_tablet_map.specs.declared.row.Row.{Row}
use Rattle.rk_tablet_map.specs.Rows.{Precedes, IsTabletMap, row_of, turned, changed_rows}
use Rattle.rk_world.specs.Notices.{row_noticed}
use Rattle.rk_coordinator.specs.declared.coordinator_lane.notices.Change.{Change}
use Rattle.rk_coordinator.specs.Changes.{change_of, rows_after}

-- a change of another tablet leaves the first row
other_changed : (row : Row) (rows : List Row) (tablet term : ℕ) (phase : Phase) → (row.tablet == tablet) ≡ false
    → changed_rows (row ∷ rows) tablet term phase ≡ row ∷ changed_rows rows tablet term phase
other_changed row rows tablet term phase other = rw other (go (row_of rows tablet))
  where
    go : (found : Option Row) → turned found (row ∷ rows) tablet term phase ≡ row ∷ turned found rows tablet term phase
    go None = refl
    go (Some it) = rw other

-- a change of its own tablet changes the first row alone
own_changed : (row : Row) (rows : List Row) (term : ℕ) (phase : Phase)
    → changed_rows (row ∷ rows) row.tablet term phase ≡ record row { term = term; phase = phase } ∷ rows
own_changed row rows term phase =
    let own : (row.tablet == row.tablet) ≡ true = eq-eqb row.tablet row.tablet refl in
    let found : row_of (row ∷ rows) row.tablet ≡ Some row = rw own in
    ap (λ (it : Option Row). turned it (row ∷ rows) row.tablet term phase) found ∙ rw own

-- changes of greater tablets leave the first row
past_first : (row : Row) (rows : List Row) (changes : List Change) → AllByRecursion (λ change. row.tablet < change.tablet) changes
    → rows_after (row ∷ rows) changes ≡ row ∷ rows_after rows changes
past_first row rows [] greater = refl
past_first row rows (change ∷ changes) greater =
    let other : (row.tablet == change.tablet) ≡ false = ne_eqb row.tablet change.tablet (λ same. absurd (omega (arith, greater.0))) in
    ap (λ (these : List Row). rows_after these changes) (other_changed row rows change.tablet change.term change.phase other)
    ∙ past_first row (changed_rows rows change.tablet change.term change.phase) changes greater.1

module _ (changed : Row → Option Phase) where
  -- the changes of rows
  abbrev changes_by : List Row → List Change
  changes_by rows = flat_map (λ row. option_to_list (change_of row (changed row))) rows

  -- the changes of later rows are of greater tablets
  greater_changes : (row : Row) (rows : List Row) → AllByRecursion (Precedes row) rows
      → AllByRecursion (λ change. row.tablet < change.tablet) (changes_by rows)
  greater_changes row [] before = tt
  greater_changes row (later ∷ rows) before =
      elim (changed later) as (λ phase. AllByRecursion (λ change. row.tablet < change.tablet) (option_to_list (change_of later phase) ++ changes_by rows)) [
        | None ↦ greater_changes row rows before.1
        | Some phase ↦ (before.0.smaller, greater_changes row rows before.1)
      ]

  -- each row is changed
  pub all_changed : (rows : List Row) → IsTabletMap rows → rows_after rows (changes_by rows) ≡ map (λ row. row_noticed row (changed row)) rows
  all_changed [] lawful = refl
  all_changed (row ∷ rows) lawful =
      elim (changed row) as (λ phase. rows_after (row ∷ rows) (option_to_list (change_of row phase) ++ changes_by rows) ≡ row_noticed row phase ∷ map (λ row. row_noticed row (changed row)) rows) [
        | None ↦ past_first row rows (changes_by rows) (greater_changes row rows lawful.0) ∙ ap (λ rest. row ∷ rest) (all_changed rows lawful.1)
        | Some phase ↦
            ap (λ (these : List Row). rows_after these (changes_by rows)) (own_changed row rows (row.term + 1) phase)
            ∙ past_first (record row { term = row.term + 1; phase = phase }) rows (changes_by rows) (greater_changes row rows lawful.0)
            ∙ ap (λ rest. record row { term = row.term + 1; phase = phase } ∷ rest) (all_changed rows lawful.1)
      ]
