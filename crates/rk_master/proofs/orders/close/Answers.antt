use Rattle.rk_master.proofs.Words.{◌≡◌, List, set, Option, sym, ap, ◌∙◌, Handover, Master, Tablet, TabletLane, tablet_of, Row, master_of}
use Rattle.std.proofs.lemmas.List.{get_or-set_same}
use Rattle.rk_transfer.specs.Handover.{closed}
use Rattle.rk_transfer.specs.declared.role.Role.TheVariants as roles
use Rattle.rk_world.specs.Handovers.{closing}
use Rattle.rk_master.proofs.Closable.{closable_in, lawful_read}
use Rattle.rk_master.proofs.Handovers.{has_moved, not_moved, stays_so, closed_role, with_rows, at_set, tablet_read, same_set, set_there, closing_so}
use Rattle.rk_master.proofs.Places.{row_there}
use Rattle.rk_master.proofs.orders.close.Goals as goal

pub returns-then-not-close-clause-ok : goal.returns-then-not-close-clause-ok
returns-then-not-close-clause-ok c =
    let master : Master = master_of c.args.state.now in
    let rows : List Row = c.args.state.now.tablets.items in
    let read : Row = c.index_mut.result.now in
    let moved : Option Handover = closed read.1.handover c.args.tenure.term in
    let failed = sym c.close.ensures.answer ∙ c.if-not-close.true in
    let same = stays_so moved read.1.handover c.close.new.self failed c.close.ensures.after in
    let tablet = tablet_read rows c.args.tenure.tablet c.args.at read c.requires.state.tablets.order c.requires.place c.index_mut.ensures.value in
    ap (with_rows master) (same_set rows c.args.at read c.close.new.self same c.index_mut.ensures.value)
    ∙ sym (ap (closing master c.args.tenure.tablet) (ap (λ (t : Tablet). closed t.handover c.args.tenure.term) tablet ∙ not_moved moved failed))

pub freeze_at-requires-clause-state : goal.freeze_at-requires-clause-state
freeze_at-requires-clause-state c =
    let read : Row = c.index_mut.result.now in
    let lane : TabletLane = c.forget_merged.new.self in
    let moved = has_moved (closed read.1.handover c.args.tenure.term) read.1.handover c.close.new.self (sym c.close.ensures.answer ∙ c.if-not-close.false) c.close.ensures.after in
    let role = ap (λ (t : Tablet). t.handover.role) c.forget_merged.ensures ∙ closed_role read.1.handover c.close.new.self c.args.tenure.term moved in
    record {
      within = c.requires.state.within;
      staged = c.requires.state.staged;
      backups = c.requires.state.backups;
      sides = c.requires.state.sides;
      tablets = lawful_read c.args.state.now.tablets.items c.args.at read lane c.requires.place.within c.index_mut.ensures.value c.requires.state.tablets
          (closable_in (tablet_of lane) roles.Closing role (λ it. tt));
    }

pub freeze_at-requires-clause-role : goal.freeze_at-requires-clause-role
freeze_at-requires-clause-role c = λ row at.
    let rows : List Row = c.args.state.now.tablets.items in
    let read : Row = c.index_mut.result.now in
    let lane : TabletLane = c.forget_merged.new.self in
    let moved = has_moved (closed read.1.handover c.args.tenure.term) read.1.handover c.close.new.self (sym c.close.ensures.answer ∙ c.if-not-close.false) c.close.ensures.after in
    let there = at_set rows c.args.tenure.tablet c.args.at read lane c.requires.place c.index_mut.ensures.value in
    let is : (read.0, lane) ≡ row = sym (get_or-set_same rows c.args.at (read.0, lane) row c.requires.place.within) ∙ row_there (set rows c.args.at (read.0, lane)) c.args.at row row there.within at in
    ap (λ (r : Row). r.1.handover.role) (sym is) ∙ ap (λ (t : Tablet). t.handover.role) c.forget_merged.ensures ∙ closed_role read.1.handover c.close.new.self c.args.tenure.term moved

pub returns-clause-place : goal.returns-clause-place
returns-clause-place c =
    c.freeze_at.ensures.place c.args.tenure.tablet
    (at_set c.args.state.now.tablets.items c.args.tenure.tablet c.args.at c.index_mut.result.now c.forget_merged.new.self c.requires.place c.index_mut.ensures.value)

pub returns-clause-ok : goal.returns-clause-ok
returns-clause-ok c =
    let master : Master = master_of c.args.state.now in
    let rows : List Row = c.args.state.now.tablets.items in
    let read : Row = c.index_mut.result.now in
    let handover : Handover = c.close.new.self in
    let lane : TabletLane = c.forget_merged.new.self in
    let moved = has_moved (closed read.1.handover c.args.tenure.term) read.1.handover handover (sym c.close.ensures.answer ∙ c.if-not-close.false) c.close.ensures.after in
    let tablet = tablet_read rows c.args.tenure.tablet c.args.at read c.requires.state.tablets.order c.requires.place c.index_mut.ensures.value in
    let there = set_there rows c.args.at (read.0, lane) c.requires.place.within in
    closing_so master (master_of c.freeze_at.new.state) rows c.args.tenure.tablet c.args.at read handover (closed read.1.handover c.args.tenure.term) lane
    c.requires.state.tablets.order c.requires.place c.index_mut.ensures.value moved c.forget_merged.ensures (c.freeze_at.ensures.ok (read.0, lane) there)
    ∙ ap (λ (t : Tablet). closing master c.args.tenure.tablet (closed t.handover c.args.tenure.term)) (sym tablet)
