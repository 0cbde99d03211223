use Rattle.rk_master.proofs.Words.{List, set, sym, ap, ◌∙◌, subst, insert, Handover, Tablet, with_handover, TabletLane, tablet_of}
use Rattle.rk_master.proofs.Words.{tablets_of, IsAt, IsBetween, Row}
use Rattle.rk_master.specs.Parts.{served}
use Rattle.rk_master.proofs.Closable.{lawful_read}
use Rattle.rk_master.proofs.Places.{changed_so, none_there}
use Rattle.rk_master.proofs.tablets.serve.Goals as goal

pub returns-in-Ok-clause-ok : goal.returns-in-Ok-clause-ok
returns-in-Ok-clause-ok c =
    let rows : List Row = c.args.tablets.now.items in
    let read : Row = c.index_mut.result.now in
    let handover : Handover = served c.args.range in
    let lane : TabletLane = record read.1 { handover = handover } in
    let found : IsAt c.args.number rows c.in-Ok.at = subst (λ (xs : List Row). IsAt c.args.number xs c.in-Ok.at) c.as_slice.ensures.value c.in-Ok.ensures.found in
    ap (λ (r : Row). tablets_of (set rows c.in-Ok.at (r.0, lane))) c.index_mut.ensures.value
    ∙ changed_so (λ (tablet : Tablet). with_handover tablet handover) rows c.args.number c.in-Ok.at read lane c.requires.order found
    (ap (λ (r : Row). with_handover (tablet_of r.1) handover) c.index_mut.ensures.value)

pub returns-in-Ok-clause-tablets : goal.returns-in-Ok-clause-tablets
returns-in-Ok-clause-tablets c =
    let rows : List Row = c.args.tablets.now.items in
    let read : Row = c.index_mut.result.now in
    let lane : TabletLane = record read.1 { handover = served c.args.range } in
    let found : IsAt c.args.number rows c.in-Ok.at = subst (λ (xs : List Row). IsAt c.args.number xs c.in-Ok.at) c.as_slice.ensures.value c.in-Ok.ensures.found in
    lawful_read rows c.in-Ok.at read lane found.within c.index_mut.ensures.value c.requires tt

pub insert_new-requires-clause-place : goal.insert_new-requires-clause-place
insert_new-requires-clause-place c = subst (λ (xs : List Row). IsBetween c.args.number xs c.in-Err.at) c.as_slice.ensures.value c.in-Err.ensures.absent

pub returns-in_ok-insert_new-in-Err-clause-ok : goal.returns-in_ok-insert_new-in-Err-clause-ok
returns-in_ok-insert_new-in-Err-clause-ok c =
    let rows : List Row = c.args.tablets.now.items in
    let between : IsBetween c.args.number rows c.in-Err.at = subst (λ (xs : List Row). IsBetween c.args.number xs c.in-Err.at) c.as_slice.ensures.value c.in-Err.ensures.absent in
    c.in_ok-insert_new-in-Err.ensures.ok
    ∙ ap (λ (tablet : Tablet). insert (tablets_of rows) c.args.number (with_handover tablet (served c.args.range))) (sym (none_there rows c.args.number c.in-Err.at between))
