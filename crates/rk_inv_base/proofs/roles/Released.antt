-- A lane stays sound when a master that is not of the lineage gives a frozen tablet up, and drops its items.
use Rattle.rk_inv_base.proofs.Words.{◌≡◌, ℕ, false, List, [], refl, ap, ◌∙◌, inl, arith, drop, false≢true, list_any, ⊤, Member}
use Rattle.rk_inv_base.proofs.Words.{Handover, lineage_of, Phase, Row, no_gather, is_member, Master, tablet_at, touches}
use Rattle.rk_inv_base.proofs.Words.{without_items, is_idle, Tablet, with_handover, without_merged, World, master_at, tablet_in, is_wanting}
use Rattle.rk_inv_base.proofs.Words.{MayRelease, MayTakeRole, Post, InvitedTarget, ReadyTarget, OutsideRebuilder, Bystander, rebuilder_post}
use Rattle.rk_inv_base.proofs.Words.{post_of, bond_of, Holds, speaks, role_taken, View, view, SoundView, tablet_released, as_released}
use Rattle.rk_inv_base.proofs.Words.{items_dropped, tablet_released_in}
use Rattle.rk_transfer.specs.declared.role.Role.TheVariants as roles
use Rattle.rk_inv_base.proofs.Base.{tablet_apart, tablet_here, put_same, put2_same, view_role_taken, view_master, row_in, inside_heir}
use Rattle.rk_inv_base.proofs.Base.{inside_member, at_most}
use Rattle.rk_inv_base.proofs.roles.ItemsDropped.{view_dropped}

-- ---- posts of masters that are not of the lineage

-- posts of a master that is not of the lineage
abbrev pub IsOutside : Post → Type 0
IsOutside InvitedTarget = ⊤
IsOutside (ReadyTarget place) = ⊤
IsOutside OutsideRebuilder = ⊤
IsOutside Bystander = ⊤
IsOutside _ = ⊥

-- a master that rebuilds the row from outside its lineage has such a post
pub heir_outside : (lineage : List Member) (master : ℕ) → is_member lineage master ≡ false → IsOutside (rebuilder_post lineage master)
heir_outside lineage master outside = grind (arith, rebuilder_post, false≢true, inside_heir)

-- each master that is not of the lineage has such a post
pub outside_post : (phase : Phase) (master : ℕ) → is_member (lineage_of phase) master ≡ false → IsOutside (post_of phase master)
outside_post phase master outside = grind (arith, post_of, false≢true, inside_member)

-- ---- a frozen tablet is given up

module _ (v : View) (row : Row) (master : ℕ) (sound : SoundView v) (may : MayRelease v row master) where
  abbrev old : Handover
  old = v.handovers master row.tablet

  abbrev applied : ℕ
  applied = (v.written master).applied

  fits : Holds (bond_of (post_of row.phase master) roles.Frozen) row.term old.term applied
  fits = grind (arith, bond_of, post_of, row_in)

  settled : list_any (touches row.range) (drop applied (v.written master).entries) ≡ false
  settled =
      (row_in v sound row may.has_row).rest.idle master (inl may.lives) (ap is_idle may.frozen)

  takes_role : MayTakeRole (items_dropped v master old.range) row master (as_released old)
  takes_role = grind (arith, at_most, is_wanting, fits, post_of, speaks, settled, outside_post, false≢true)

  pub view_given_up : SoundView (role_taken (items_dropped v master old.range) master row.tablet (as_released old) no_gather [])
  view_given_up =
      view_role_taken (items_dropped v master old.range) row master (as_released old) no_gather [] (view_dropped v row master sound may) takes_role

-- what it makes of a view
pub view_released : (w : World) (master number : ℕ) → view (tablet_released_in w master number) ≡ role_taken (items_dropped (view w) master ((view w).handovers master number).range) master number (as_released ((view w).handovers master number)) no_gather []
view_released w master number =
    let handover : Handover = as_released (tablet_in w master number).handover in
    let dropped : Master = without_items (master_at w master) handover.range in
    let tablet : Tablet = without_merged (with_handover (tablet_at dropped number) handover) in
    view_master w master (tablet_released (master_at w master) number handover) number tablet refl (tablet_here dropped number tablet)
    (tablet_apart dropped number tablet)
    ∙ (λ i. record (role_taken (items_dropped (view w) master handover.range) master number handover no_gather []) {
      logs = put_same (view w).logs master i;
      written = put_same (view w).written master i;
      calls = put_same (view w).calls master i;
      completions = put2_same (view w).completions master number i;
      pullings = put2_same (view w).pullings master number i;
    })
