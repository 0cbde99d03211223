use Rattle.rk_master.proofs.Words.{List, sym, ap, ◌∙◌, subst, insert_at, insert, no_tablet, with_handover, tablet_of, tablets_of}
use Rattle.rk_master.proofs.Words.{IsClosable, AreClosable, AreTablets, Row}
use Rattle.rk_master.proofs.Closable.{closable_else, closable_insert}
use Rattle.rk_master.proofs.Places.{added_between, added_order}
use Rattle.rk_master.proofs.tablets.insert_new.Goals as goal

pub returns-clause-ok : goal.returns-clause-ok
returns-clause-ok c =
    let rows : List Row = c.args.tablets.now.items in
    ap tablets_of c.in_ok-insert.ensures.items
    ∙ added_between rows c.args.number c.args.at c.new-tablet.result c.requires.place
    ∙ ap (insert (tablets_of rows) c.args.number) c.new-tablet.ensures

pub returns-clause-tablets : goal.returns-clause-tablets
returns-clause-tablets c =
    let rows : List Row = c.args.tablets.now.items in
    let added : IsClosable (tablet_of c.new-tablet.result) =
    subst IsClosable (sym c.new-tablet.ensures) (closable_else (with_handover no_tablet c.args.handover) c.requires.receiving c.requires.joining) in
    let closable : AreClosable (tablets_of (insert_at rows c.args.at (c.args.number, c.new-tablet.result))) =
    subst AreClosable (sym (added_between rows c.args.number c.args.at c.new-tablet.result c.requires.place))
    (closable_insert (tablets_of rows) c.args.number (tablet_of c.new-tablet.result) c.requires.tablets.closable added) in
    subst AreTablets (sym c.in_ok-insert.ensures.items)
    (record { order = added_order rows c.args.number c.args.at c.new-tablet.result c.requires.tablets.order c.requires.place; closable = closable })
