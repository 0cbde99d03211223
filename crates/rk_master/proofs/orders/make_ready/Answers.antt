use Rattle.rk_master.proofs.Words.{List, map, ap, sym, ◌∙◌, with_items_is, records_of, Handover, Master, changing, given_up_but, tablets_of}
use Rattle.rk_master.proofs.Words.{Row, master_of}
use Rattle.rk_transfer.specs.Handover.{prepared}
use Rattle.rk_master.proofs.Handovers.{begins, has_moved, prepared_so}
use Rattle.rk_master.proofs.orders.make_ready.Goals as goal

pub returns-clause-ok : goal.returns-clause-ok
returns-clause-ok c =
    let master : Master = master_of c.args.state.now in
    let rows : List Row = c.args.state.now.tablets.items in
    let handover : Handover = c.prepare.new.self in
    let given_up_rows = with_items_is c.args.state.now.tablets c.give_up_others.new.tablets (c.give_up_others.auto.tablets ∙ c.as_mut_slice.ensures.len) in
    let others = ap tablets_of given_up_rows ∙ c.give_up_others.ensures.others
    ∙ ap (λ (held : List Row). map (changing (given_up_but c.args.prepare.tenure.tablet c.args.prepare.range)) (tablets_of held)) c.as_mut_slice.ensures.value in
    let moved = has_moved (prepared c.args.before c.args.prepare.tenure.term c.args.prepare.range c.length.result) c.args.before handover
    (begins c.args.before c.args.prepare.tenure.term c.args.prepare.range c.length.result c.requires.greater) c.prepare.ensures.after in
    prepared_so master rows _ c.hand.new.tablets.items (records_of c.drop_range.new.self) c.args.prepare c.args.before handover c.requires.before
    (ap (prepared c.args.before c.args.prepare.tenure.term c.args.prepare.range) (sym c.length.ensures) ∙ moved) c.drop_range.ensures.dropped others c.in_ok-hand.ensures.ok
