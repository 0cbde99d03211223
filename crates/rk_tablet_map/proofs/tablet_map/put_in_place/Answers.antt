use Rattle.std.proofs.Common.{◌≡◌, ℕ, true, is_ok, nat_le, sym, ap, ◌∙◌, arith}
use Rattle.std.specs.List.{position_or_len, insert}
use Rattle.rk_tablet_map.specs.declared.row.Row.{Row}
use Rattle.rk_tablet_map.proofs.Places.{placed_at}
use Rattle.rk_tablet_map.proofs.tablet_map.put_in_place.Goals as goal

-- the row was inserted, since there is room
pub returns : goal.returns
returns c =
    let stored : is_ok c.insert.result ≡ true = c.insert.ensures.succeeds (omega arith) in
    rw stored at c.insert.ensures.items
    ∙ ap (λ (k : ℕ). insert c.args.rows.now.items k c.args.row) (c.place_of-place.ensures.place ∙ ap (position_or_len (λ (row : Row). nat_le c.args.row.tablet row.tablet)) c.as_slice.ensures.value)
    ∙ sym (placed_at c.args.row c.args.rows.now.items)
