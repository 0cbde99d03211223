use Rattle.rk_master.proofs.Words.{List, set, sym, ap, ◌∙◌, subst, insert, Handover, Tablet, with_handover, without_merged, TabletLane}
use Rattle.rk_master.proofs.Words.{IsClosable, tablet_of, tablets_of, IsAt, IsBetween, Row}
use Rattle.rk_master.proofs.Closable.{closable_else, lawful_read}
use Rattle.rk_master.proofs.Places.{changed_so, none_there}
use Rattle.rk_master.proofs.tablets.hand.Goals as goal

pub returns-in-Ok-clause-ok : goal.returns-in-Ok-clause-ok
returns-in-Ok-clause-ok c =
    let rows : List Row = c.args.tablets.now.items in
    let read : Row = c.index_mut.result.now in
    let handover : Handover = c.args.handover in
    let lane : TabletLane = c.hand.new.self in
    let found : IsAt c.args.number rows c.in-Ok.at = subst (λ (xs : List Row). IsAt c.args.number xs c.in-Ok.at) c.as_slice.ensures.value c.in-Ok.ensures.found in
    ap (λ (r : Row). tablets_of (set rows c.in-Ok.at (r.0, lane))) c.index_mut.ensures.value
    ∙ changed_so (λ (tablet : Tablet). without_merged (with_handover tablet handover)) rows c.args.number c.in-Ok.at read lane c.requires.tablets.order found
    (c.hand.ensures ∙ ap (λ (r : Row). without_merged (with_handover (tablet_of r.1) handover)) c.index_mut.ensures.value)

pub returns-in-Ok-clause-tablets : goal.returns-in-Ok-clause-tablets
returns-in-Ok-clause-tablets c =
    let rows : List Row = c.args.tablets.now.items in
    let read : Row = c.index_mut.result.now in
    let found : IsAt c.args.number rows c.in-Ok.at = subst (λ (xs : List Row). IsAt c.args.number xs c.in-Ok.at) c.as_slice.ensures.value c.in-Ok.ensures.found in
    let closable : IsClosable (tablet_of c.hand.new.self) =
    subst IsClosable (sym c.hand.ensures) (closable_else (with_handover (tablet_of read.1) c.args.handover) c.requires.receiving c.requires.joining) in
    lawful_read rows c.in-Ok.at read c.hand.new.self found.within c.index_mut.ensures.value c.requires.tablets closable

pub insert_new-requires-clause-place : goal.insert_new-requires-clause-place
insert_new-requires-clause-place c = subst (λ (xs : List Row). IsBetween c.args.number xs c.in-Err.at) c.as_slice.ensures.value c.in-Err.ensures.absent

pub returns-in_ok-insert_new-in-Err-clause-ok : goal.returns-in_ok-insert_new-in-Err-clause-ok
returns-in_ok-insert_new-in-Err-clause-ok c =
    let rows : List Row = c.args.tablets.now.items in
    let between : IsBetween c.args.number rows c.in-Err.at = subst (λ (xs : List Row). IsBetween c.args.number xs c.in-Err.at) c.as_slice.ensures.value c.in-Err.ensures.absent in
    c.in_ok-insert_new-in-Err.ensures.ok
    ∙ ap (λ (tablet : Tablet). insert (tablets_of rows) c.args.number (without_merged (with_handover tablet c.args.handover))) (sym (none_there rows c.args.number c.in-Err.at between))
