use Rattle.rk_master.proofs.Words.{List, set, sym, ap, ◌∙◌, subst, insert_at, TabletLane, AreClosable, AreTablets, tablet_of, tablets_of}
use Rattle.rk_master.proofs.Words.{IsAt, IsBetween, Row, Tablet}
use Rattle.rk_master.proofs.Closable.{closable_insert, lawful_read}
use Rattle.rk_master.proofs.Places.{added_between, added_order, changed_so}
use Rattle.rk_master.proofs.splits.put.Goals as goal

pub returns-in-Ok-clause-ok : goal.returns-in-Ok-clause-ok
returns-in-Ok-clause-ok c =
    let rows : List Row = c.args.tablets.now.items in
    let read : Row = c.index_mut.result.now in
    let lane : TabletLane = c.args.lane in
    let found : IsAt c.args.number rows c.in-Ok.at = subst (λ (xs : List Row). IsAt c.args.number xs c.in-Ok.at) c.as_slice.ensures.value c.in-Ok.ensures.found in
    ap (λ (r : Row). tablets_of (set rows c.in-Ok.at (r.0, lane))) c.index_mut.ensures.value
    ∙ changed_so (λ (tablet : Tablet). tablet_of lane) rows c.args.number c.in-Ok.at read lane c.requires.tablets.order found (λ i. tablet_of lane)

pub returns-in-Ok-clause-tablets : goal.returns-in-Ok-clause-tablets
returns-in-Ok-clause-tablets c =
    let rows : List Row = c.args.tablets.now.items in
    let found : IsAt c.args.number rows c.in-Ok.at = subst (λ (xs : List Row). IsAt c.args.number xs c.in-Ok.at) c.as_slice.ensures.value c.in-Ok.ensures.found in
    lawful_read rows c.in-Ok.at c.index_mut.result.now c.args.lane found.within c.index_mut.ensures.value c.requires.tablets c.requires.closable

pub returns-in_ok-insert-in-Err-clause-ok : goal.returns-in_ok-insert-in-Err-clause-ok
returns-in_ok-insert-in-Err-clause-ok c =
    let rows : List Row = c.args.tablets.now.items in
    let between : IsBetween c.args.number rows c.in-Err.at = subst (λ (xs : List Row). IsBetween c.args.number xs c.in-Err.at) c.as_slice.ensures.value c.in-Err.ensures.absent in
    ap tablets_of c.in_ok-insert-in-Err.ensures.items ∙ added_between rows c.args.number c.in-Err.at c.args.lane between

pub returns-in_ok-insert-in-Err-clause-tablets : goal.returns-in_ok-insert-in-Err-clause-tablets
returns-in_ok-insert-in-Err-clause-tablets c =
    let rows : List Row = c.args.tablets.now.items in
    let between : IsBetween c.args.number rows c.in-Err.at = subst (λ (xs : List Row). IsBetween c.args.number xs c.in-Err.at) c.as_slice.ensures.value c.in-Err.ensures.absent in
    let closable : AreClosable (tablets_of (insert_at rows c.in-Err.at (c.args.number, c.args.lane))) =
    subst AreClosable (sym (added_between rows c.args.number c.in-Err.at c.args.lane between))
    (closable_insert (tablets_of rows) c.args.number (tablet_of c.args.lane) c.requires.tablets.closable c.requires.closable) in
    subst AreTablets (sym c.in_ok-insert-in-Err.ensures.items)
    (record { order = added_order rows c.args.number c.in-Err.at c.args.lane c.requires.tablets.order between; closable = closable })
