use Rattle.rk_master.proofs.Words.{◌≡◌, List, map, sym, ap, ◌∙◌, subst, with_items_is, IsInOrder, insert, Handover, Master, is_gathering}
use Rattle.rk_master.proofs.Words.{Tablet, AreTablets, changing, given_up_but, tablet_in, tablets_of, Row, with_gather, master_of}
use Rattle.std.specs.Vec.{with_items}
use Rattle.rk_transfer.specs.Handover.{rebuilt}
use Rattle.rk_world.specs.Gather.{gather_begun}
use Rattle.rk_master.proofs.Handovers.{has_moved}
use Rattle.rk_master.proofs.Receiving.{order_tablets}
use Rattle.rk_master.proofs.Rebuilt.{begins_so, begun_role, begun_so, handed_tablet, handed_there}
use Rattle.rk_master.proofs.rebuilds.begin.Goals as goal

pub begin_gather-requires-clause-there : goal.begin_gather-requires-clause-there
begin_gather-requires-clause-there c =
    handed_there c.as_mut_slice-2.result.now _ c.args.rebuild.now.tenure.tablet _ (ap tablets_of c.as_mut_slice-2.ensures.value ∙ c.in_ok-hand.ensures.ok)

pub begin_gather-requires-clause-role : goal.begin_gather-requires-clause-role
begin_gather-requires-clause-role c =
    let handover : Handover = c.rebuild.new.self in
    let moved = has_moved (rebuilt c.args.before c.args.rebuild.now.tenure.term c.args.rebuild.now.range c.begin_from-from.result) c.args.before handover
    (begins_so c.args.before c.args.rebuild.now.tenure.term c.args.rebuild.now.range c.begin_from-from.result c.requires.greater) c.rebuild.ensures.after in
    ap (λ (t : Tablet). is_gathering t.handover.role)
    (handed_tablet c.as_mut_slice-2.result.now _ c.args.rebuild.now.tenure.tablet _ (ap tablets_of c.as_mut_slice-2.ensures.value ∙ c.in_ok-hand.ensures.ok))
    ∙ ap is_gathering (begun_role c.args.before handover c.args.rebuild.now.tenure.term c.args.rebuild.now.range c.begin_from-from.result moved)

pub returns-clause-ok : goal.returns-clause-ok
returns-clause-ok c =
    let master : Master = master_of c.args.state.now in
    let first : Master = master_of c.begin_from-from.new.state in
    let handover : Handover = c.rebuild.new.self in
    let moved = has_moved (rebuilt c.args.before c.args.rebuild.now.tenure.term c.args.rebuild.now.range c.begin_from-from.result) c.args.before handover
    (begins_so c.args.before c.args.rebuild.now.tenure.term c.args.rebuild.now.range c.begin_from-from.result c.requires.greater) c.rebuild.ensures.after in
    let from = ap (rebuilt c.args.before c.args.rebuild.now.tenure.term c.args.rebuild.now.range) (sym c.begin_from-from.ensures.from) in
    let kept : first.tablets ≡ master.tablets = λ i. tablets_of (c.begin_from-from.ensures.tablets i).items in
    let given_up_rows = with_items_is c.begin_from-from.new.state.tablets c.give_up_others.new.tablets (c.give_up_others.auto.tablets ∙ c.as_mut_slice.ensures.len) in
    let given_up = ap tablets_of given_up_rows in
    let others = given_up ∙ c.give_up_others.ensures.others
    ∙ ap (λ (held : List Row). map (changing (given_up_but c.args.rebuild.now.tenure.tablet c.args.rebuild.now.range)) (tablets_of held)) c.as_mut_slice.ensures.value
    ∙ ap (map (changing (given_up_but c.args.rebuild.now.tenure.tablet c.args.rebuild.now.range))) kept in
    let given : List Row = (with_items c.begin_from-from.new.state.tablets c.give_up_others.new.tablets).items in
    let order = order_tablets given (subst IsInOrder (sym given_up_rows) c.give_up_others.ensures.tablets.order) in
    let gather = c.in_ok-gather.ensures ∙ (λ i. gather_begun c.args.rebuild.now.range ((c.into_vec-lineage.ensures ∙ c.in_ok-duplicate.ensures) i) (c.begin_from-from.ensures.number i)) in
    let gathered_rows = with_items_is c.hand.new.tablets c.begin_gather.new.tablets (c.begin_gather.auto.tablets ∙ c.as_mut_slice-2.ensures.len) in
    let gathers = ap tablets_of gathered_rows ∙ c.begin_gather.ensures.gathers
    ∙ ap (λ (held : List Row). insert (tablets_of held) c.args.rebuild.now.tenure.tablet (with_gather (tablet_in held c.args.rebuild.now.tenure.tablet) c.in_ok-gather.gather))
    c.as_mut_slice-2.ensures.value in
    begun_so master first (tablets_of given) (tablets_of c.hand.new.tablets.items) _ c.args.rebuild.now c.args.before
    handover c.in_ok-gather.gather c.begin_from-from.ensures.ok kept c.requires.before (from ∙ moved) others order c.in_ok-hand.ensures.ok gather gathers

pub returns-clause-state : goal.returns-clause-state
returns-clause-state c =
    let state = c.begin_from-from.ensures.state in
    let gathered_rows = with_items_is c.hand.new.tablets c.begin_gather.new.tablets (c.begin_gather.auto.tablets ∙ c.as_mut_slice-2.ensures.len) in
    record {
      within = state.within;
      staged = state.staged;
      backups = state.backups;
      sides = state.sides;
      tablets = subst AreTablets (sym gathered_rows) c.begin_gather.ensures.tablets;
    }
