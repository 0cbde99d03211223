use Rattle.std.proofs.Common.{◌≡◌, true, false, cond, is_some, Some, None, sym, ap, ◌∙◌, subst, get_or, slice_set}
use Rattle.rk_tablet_map.specs.declared.phase.Phase.{Phase}
use Rattle.rk_tablet_map.specs.declared.row.Row.{Row}
use Rattle.rk_tablet_map.specs.declared.error.MapError.TheVariants.{BadSplit}
use Rattle.rk_tablet_map.specs.Rows.{IsTabletMap, row_of, placed, replaced, is_split, lower_part, upper_part}
use Rattle.rk_tablet_map.proofs.Places.{row_at, no_row, replaced_at}
use Rattle.rk_tablet_map.proofs.Lawful.{lawful_split, covered_split, no_split, splits, fault_unknown, fault_taken, fault_of_range}
use Rattle.rk_tablet_map.proofs.tablet_map.TabletMap.split.Goals as goal

-- the row at the place is the tablet's
row_read : (c : goal.Joined-then-at-range) → row_of c.self.inside.rows.items c.args.tablet ≡ Some c.index-row.result.now
row_read c = row_at c.self.inside.rows.items c.args.tablet c.in-Some.place c.index-row.result.now (rw c.as_slice.ensures.value at c.in-Some.ensures) ∙ ap Some (sym c.index-row.ensures)

-- the same, as known at the end
row_is : (c : goal.After-put_in_place) → row_of c.self.inside.rows.items c.args.tablet ≡ Some c.index-row.result.now
row_is c = row_at c.self.inside.rows.items c.args.tablet c.in-Some.place c.index-row.result.now (rw c.as_slice.ensures.value at c.in-Some.ensures) ∙ ap Some (sym c.index-row.ensures)

-- the row that is written is the row that was read
same_row : (c : goal.After-put_in_place) → c.index_mut.result.now ≡ c.index-row.result.now
same_row c =
    let read = row_is c in
    let here : c.index_mut.result.now ≡ get_or c.self.inside.rows.items c.in-Some.place c.index_mut.result.now = rw c.reserve_one.ensures.same at c.index_mut.ensures.value in
    let written = row_at c.self.inside.rows.items c.args.tablet c.in-Some.place c.index_mut.result.now (rw c.as_slice.ensures.value at c.in-Some.ensures) ∙ ap Some (sym here) in
    cc (read, written)

-- the lower part is put in its place
lowered : (c : goal.After-put_in_place) → slice_set c.reserve_one.new.rows.items c.in-Some.place (lower_part c.index_mut.result.now c.args.at) ≡ replaced c.args.tablet (lower_part c.index-row.result.now c.args.at) c.self.inside.rows.items
lowered c =
    rw (c.reserve_one.ensures.same, same_row c)
    (sym (replaced_at c.args.tablet (lower_part c.index-row.result.now c.args.at) c.self.inside.rows.items c.in-Some.place (rw c.as_slice.ensures.value at c.in-Some.ensures)))

-- the upper part was put in its place
inserted : (c : goal.After-put_in_place) → c.put_in_place.new.rows.items ≡ placed (upper_part c.index-row.result.now c.args.at c.args.new) (replaced c.args.tablet (lower_part c.index-row.result.now c.args.at) c.self.inside.rows.items)
inserted c =
    let upper : Row = record (upper_part c.index-row.result.now c.args.at c.args.new) { phase = c.in_ok-duplicate.field-0 } in
    c.put_in_place.ensures
    ∙ ap (placed upper) (lowered c)
    ∙ ap (λ (phase : Phase). placed (record (upper_part c.index-row.result.now c.args.at c.args.new) { phase = phase }) (replaced c.args.tablet (lower_part c.index-row.result.now c.args.at) c.self.inside.rows.items)) c.in_ok-duplicate.ensures

-- the hash splits the range
is_inside : (c : goal.After-put_in_place) → is_split c.index-row.result.now.range c.args.at ≡ true
is_inside c = splits c.index-row.result.now.range c.args.at c.if-at-range.false c.if-range-at.false

-- the new number is free
is_free : (c : goal.After-put_in_place) → is_some (row_of c.self.inside.rows.items c.args.new) ≡ false
is_free c = rw c.as_slice-2.ensures.value at (sym c.if-has_number.ensures)

pub returns-in_default-clause-refused : goal.returns-in_default-clause-refused
returns-in_default-clause-refused c _ = rw (← c.self.view_is) (fault_unknown c.self.inside.rows.items c.args.tablet c.args.at c.args.new (no_row c.self.inside.rows.items c.args.tablet (rw c.as_slice.ensures.value at c.in_default.ensures)))

pub returns-then-has_number-clause-refused : goal.returns-then-has_number-clause-refused
returns-then-has_number-clause-refused c _ =
    rw (← c.self.view_is)
    (fault_taken c.self.inside.rows.items c.args.tablet c.args.at c.args.new c.in-Some.place (rw c.as_slice.ensures.value at c.in-Some.ensures) (rw c.as_slice-2.ensures.value at (sym c.if-has_number.ensures)))

pub returns-then-at-range-clause-refused : goal.returns-then-at-range-clause-refused
returns-then-at-range-clause-refused c _ =
    rw (← c.self.view_is)
    (fault_of_range c.self.inside.rows.items c.args.tablet c.args.at c.args.new c.index-row.result.now (row_read c) (rw c.as_slice-2.ensures.value at (sym c.if-has_number.ensures))
    ∙ ap (λ b. cond b None (Some (BadSplit c.args.at))) (no_split c.index-row.result.now.range c.args.at c.then-at-range.either))

pub invariant_of-self-2 : goal.invariant_of-self-2
invariant_of-self-2 c =
    subst IsTabletMap (sym (inserted c))
    (lawful_split c.self.inside.rows.items c.args.tablet c.args.at c.args.new c.index-row.result.now (row_is c) (is_free c) (is_inside c) c.self.invariant)

pub returns-clause-lawful : goal.returns-clause-lawful
returns-clause-lawful c =
    rw (← c.self.view_is)
    (fault_of_range c.self.inside.rows.items c.args.tablet c.args.at c.args.new c.index-row.result.now (row_is c) (is_free c)
    ∙ ap (λ b. cond b None (Some (BadSplit c.args.at))) (is_inside c))

pub returns-clause-ok : goal.returns-clause-ok
returns-clause-ok c = rw (← c.self.view_is, row_is c) (inserted c)

pub returns-clause-union : goal.returns-clause-union
returns-clause-union c table hash =
    rw (← c.self.view_is, inserted c)
    (covered_split c.self.inside.rows.items c.args.tablet c.args.at c.args.new c.index-row.result.now table hash (row_is c) (is_inside c))
