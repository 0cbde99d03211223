-- A tablet that is owned begins to move, or is split.
use Rattle.std.proofs.Common.{◌≡◌, ℕ, ◌+◌, List, Option, Some, None, sym, ap, ◌∙◌, subst}
use Rattle.std.specs.Option.{option_map}
use Rattle.rk_tablet_map.specs.declared.phase.Phase.{Phase}
use Rattle.rk_tablet_map.specs.declared.phase.Phase.TheVariants.{Owned, Opening}
use Rattle.rk_tablet_map.specs.declared.row.Row.{Row}
use Rattle.rk_tablet_map.specs.Rows.{row_of, changed_rows, split_rows, split_fault}
use Rattle.rk_tablet_map.proofs.Lawful.{number_of}
use Rattle.rk_world.specs.Coordinator.{Coordinator}
use Rattle.rk_world.specs.Migrations.{tablet_migrated}
use Rattle.rk_world.specs.declared.error.MoveError.TheVariants as moves
use Rattle.rk_world.specs.Splits.{rows_split, rows_split_of, tablet_split_fault, tablet_split_fault_of}

-- the row of a tablet is at its next term, and opens
pub migrated : (coordinator : Coordinator) (tablet to master from : ℕ) (row : Row) (rows : List Row)
    → Some row ≡ row_of coordinator.rows tablet → row.phase ≡ Owned master from
    → rows ≡ changed_rows coordinator.rows tablet (row.term + 1) (Opening master from to None)
    → tablet_migrated coordinator tablet to ≡ record coordinator { rows = rows }
migrated coordinator tablet to master from row rows found owned changed =
    let number : row.tablet ≡ tablet = number_of coordinator.rows tablet row (sym found) in
    rw (← found, owned, number, changed)

-- both parts of a tablet are at its next term, with its owner
pub both_split : (coordinator : Coordinator) (tablet at new master from : ℕ) (row : Row) (split lower rows : List Row)
    → Some row ≡ row_of coordinator.rows tablet → row.phase ≡ Owned master from
    → split ≡ split_rows coordinator.rows tablet at new
    → lower ≡ changed_rows split tablet (row.term + 1) (Owned master from)
    → rows ≡ changed_rows lower new (row.term + 1) (Owned master from)
    → rows_split coordinator tablet at new ≡ record coordinator { rows = rows }
both_split coordinator tablet at new master from row split lower rows found owned is_split is_lower is_both =
    let number : row.tablet ≡ tablet = number_of coordinator.rows tablet row (sym found) in
    let changed_twice : List Row → ℕ → Phase → List Row = λ rows lower phase. changed_rows (changed_rows rows lower (row.term + 1) phase) new (row.term + 1) phase in
    subst (λ (o : Option Row). rows_split_of coordinator o at new ≡ record coordinator { rows = rows }) found
    (ap (λ (these : List Row). record coordinator { rows = these })
    (ap (λ (phase : Phase). changed_twice (split_rows coordinator.rows row.tablet at new) row.tablet phase) owned
    ∙ ap (λ (t : ℕ). changed_twice (split_rows coordinator.rows t at new) t (Owned master from)) number
    ∙ ap (λ (these : List Row). changed_twice these tablet (Owned master from)) (sym is_split)
    ∙ ap (λ (these : List Row). changed_rows these new (row.term + 1) (Owned master from)) (sym is_lower)
    ∙ sym is_both))

-- what refuses a split of a tablet that is owned is what the map refuses
pub split_refused : (coordinator : Coordinator) (tablet at new master from : ℕ) (row : Row)
    → Some row ≡ row_of coordinator.rows tablet → row.phase ≡ Owned master from
    → tablet_split_fault coordinator tablet at new ≡ option_map moves.Map (split_fault coordinator.rows tablet at new)
split_refused coordinator tablet at new master from row found owned =
    let number : row.tablet ≡ tablet = number_of coordinator.rows tablet row (sym found) in
    subst (λ (o : Option Row). tablet_split_fault_of coordinator o at new ≡ option_map moves.Map (split_fault coordinator.rows tablet at new)) found
    (rw (owned, number))
