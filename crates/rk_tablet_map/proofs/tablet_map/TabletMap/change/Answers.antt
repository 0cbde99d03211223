use Rattle.std.proofs.Common.{◌≡◌, Some, None, refl, sym, ap, ◌∙◌, subst, slice_set}
use Rattle.rk_tablet_map.specs.Rows.{IsTabletMap, row_of, replaced}
use Rattle.rk_tablet_map.proofs.Places.{row_at, no_row, replaced_at}
use Rattle.rk_tablet_map.proofs.Lawful.{lawful_turned}
use Rattle.rk_tablet_map.proofs.tablet_map.TabletMap.change.Goals as goal

-- no row has the number
none : (c : goal.Joined-phase) → row_of c.self.inside.rows.items c.args.tablet ≡ None
none c = no_row c.self.inside.rows.items c.args.tablet (rw c.as_slice.ensures.value at c.in_default.ensures)

-- the row that is written is the tablet's
row_is : (c : goal.Joined-row-phase) → row_of c.self.inside.rows.items c.args.tablet ≡ Some c.index_mut-row.result.now
row_is c = row_at c.self.inside.rows.items c.args.tablet c.in-Some.place c.index_mut-row.result.now (rw c.as_slice.ensures.value at c.in-Some.ensures) ∙ ap Some (sym c.index_mut-row.ensures.value)

-- it is written in its place
written : (c : goal.Joined-row-phase) → replaced c.args.tablet (record c.index_mut-row.result.now { term = c.args.term; phase = c.args.phase }) c.self.inside.rows.items ≡ slice_set c.self.inside.rows.items c.in-Some.place (record c.index_mut-row.result.now { term = c.args.term; phase = c.args.phase })
written c = replaced_at c.args.tablet _ c.self.inside.rows.items c.in-Some.place (rw c.as_slice.ensures.value at c.in-Some.ensures)

pub returns-in_default-clause-answer : goal.returns-in_default-clause-answer
returns-in_default-clause-answer c = rw (← c.self.view_is, none c)

pub returns-in_default-clause-after : goal.returns-in_default-clause-after
returns-in_default-clause-after c = rw (← c.self.view_is, none c)

pub invariant_of-self : goal.invariant_of-self
invariant_of-self c =
    subst IsTabletMap (written c)
    (lawful_turned c.self.inside.rows.items c.args.tablet c.index_mut-row.result.now (record c.index_mut-row.result.now { term = c.args.term; phase = c.args.phase }) (row_is c) refl refl c.self.invariant)

pub returns-clause-answer : goal.returns-clause-answer
returns-clause-answer c = rw (← c.self.view_is, row_is c)

pub returns-clause-after : goal.returns-clause-after
returns-clause-after c = rw (← c.self.view_is, row_is c) (sym (written c))
