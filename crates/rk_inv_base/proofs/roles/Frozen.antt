-- A lane stays sound when a tablet freezes of which nothing is left to be applied.
use Rattle.rk_inv_base.proofs.Words.{◌≡◌, ℕ, sym, subst, arith, Contains, Handover, Row, is_absent, World, is_wanting, MayTakeRole}
use Rattle.rk_inv_base.proofs.Words.{post_of, bond_of, Holds, as_frozen, View, view, IsSound, SoundView, MayFreeze, tablet_frozen_in}
use Rattle.rk_transfer.specs.declared.role.Role.TheVariants as roles
use Rattle.rk_inv_base.proofs.Base.{alike_frozen, speaks_alike, inside_member, view_role_taken, view_taken, row_in, at_most}

module _ (v : View) (row : Row) (master : ℕ) (sound : SoundView v) (has_row : Contains v.rows row) (may : MayFreeze v master row.tablet) where
  abbrev old : Handover
  old = v.handovers master row.tablet

  abbrev applied : ℕ
  applied = (v.written master).applied

  closes : Holds (bond_of (post_of row.phase master) roles.Closing) row.term old.term applied
  closes = grind (arith, bond_of, post_of, row_in)

  ranged : old.range ≡ row.range
  ranged = grind (arith, row_in, inside_member, post_of, closes)

  pub takes_role : MayTakeRole v row master (as_frozen old)
  takes_role = grind (arith, at_most, is_absent, is_wanting, post_of, closes, speaks_alike, as_frozen, alike_frozen, ranged)

-- the tablet is that of a row
pub frozen_of_row : (w : World) (row : Row) (master : ℕ) → IsSound w → Contains (view w).rows row → MayFreeze (view w) master row.tablet → IsSound (tablet_frozen_in w master row.tablet)
frozen_of_row w row master sound has may =
    let v : View = view w in
    let new : Handover = as_frozen (v.handovers master row.tablet) in
    subst SoundView (sym (view_taken w master row.tablet new (v.gathers master row.tablet) (v.merged master row.tablet)))
    (view_role_taken v row master new (v.gathers master row.tablet) (v.merged master row.tablet) sound (takes_role v row master sound has may))
