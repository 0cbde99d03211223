use Rattle.std.proofs.Common.{sym, ◌∙◌, ap, subst}
use Rattle.rk_tablet_map.specs.Rows.{IsTabletMap, placed}
use Rattle.rk_tablet_map.proofs.Lawful.{lawful_placed}
use Rattle.rk_tablet_map.proofs.tablet_map.TabletMap.add.Goals as goal

pub invariant_of-self-2 : goal.invariant_of-self-2
invariant_of-self-2 c =
    subst IsTabletMap (sym (c.put_in_place.ensures ∙ ap (placed c.args.row) c.reserve_one.ensures.same))
    (lawful_placed c.args.row c.self.inside.rows.items c.self.invariant
    (record { unknown = rw c.as_slice.ensures.value at (sym c.if-has_number.ensures); apart = rw c.as_slice-2.ensures.value at (sym c.if-meets_one.ensures) }))

pub returns-clause-ok : goal.returns-clause-ok
returns-clause-ok c = rw (← c.self.view_is) (c.put_in_place.ensures ∙ ap (placed c.args.row) c.reserve_one.ensures.same)
