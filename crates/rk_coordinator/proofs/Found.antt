-- The row that is found of a tablet.
use Rattle.std.proofs.Common.{◌≡◌, ℕ, ◌<◌, ◌^◌, ◌==◌, true, false, cond, List, [], ◌∷◌, Some, All, sym, subst}
use Rattle.std.proofs.lemmas.List.Elements.{All-head, All-tail}
use Rattle.rk_tablet_map.specs.declared.row.Row.{Row}
use Rattle.rk_tablet_map.specs.Rows.{row_of}
use Rattle.rk_world.specs.Coordinator.{Coordinator}
use Rattle.rk_coordinator.specs.Lane.{MayRise}

-- what holds of each row holds of the row that is found
held_by_found : (P : Row → Type 0) (rows : List Row) (tablet : ℕ) (row : Row) → All P rows → row_of rows tablet ≡ Some row → P row
held_by_found P [] tablet row all is = absurd (cc)
held_by_found P (first ∷ rows) tablet row all is =
    elim (first.tablet == tablet) as (λ b. cond b (Some first) (row_of rows tablet) ≡ Some row → P row) [
      | true ↦ λ here. let same : first ≡ row = cc in subst P same (All-head P first rows all)
      | false ↦ λ there. held_by_found P rows tablet row (All-tail P first rows all) there
    ] is

-- if each term may rise, that of the row that is found may
pub found_may_rise : (coordinator : Coordinator) (tablet : ℕ) (row : Row) → MayRise coordinator → Some row ≡ row_of coordinator.rows tablet → row.term < 2 ^ 63
found_may_rise coordinator tablet row may_rise found = held_by_found (λ row. row.term < 2 ^ 63) coordinator.rows tablet row may_rise (sym found)
