use Rattle.rk_master.proofs.Words.{◌≡◌, List, refl, sym, ap, ◌∙◌, subst, IfOk, Master, is_gathering, Tablet, no_tablet, Worked, Work}
use Rattle.rk_master.proofs.Words.{tablet_of, worked_of, IsAt, Row, CanBeSpelled, master_of}
use Rattle.rk_world.specs.Gather.{next_reading}
use Rattle.rk_master.proofs.Handovers.{none_lent, tablet_read, worked_quietly}
use Rattle.rk_master.proofs.Rebuilt.{goes_on_so, is_gathering_so, stays_so}
use Rattle.rk_master.proofs.rebuilds.go_on.Goals as goal

pub returns-in_default-clause-ok : goal.returns-in_default-clause-ok
returns-in_default-clause-ok c =
    let master : Master = master_of c.args.state.now in
    let rows : List Row = c.args.state.now.tablets.items in
    worked_quietly master c.nothing.result c.nothing.ensures.sends c.nothing.ensures.served c.nothing.ensures.marked
    ∙ stays_so master c.args.tablet no_tablet
    (none_lent rows c.as_slice.result.now c.args.tablet c.in_default.field-0 c.as_slice.ensures.value c.in_default.ensures.absent) refl

pub returns-in_default-gathered_from-clause-ok : goal.returns-in_default-gathered_from-clause-ok
returns-in_default-gathered_from-clause-ok c =
    let master : Master = master_of c.args.state.now in
    let read : Row = c.index.result.now in
    let found = subst (λ (xs : List Row). IsAt c.args.tablet xs c.in-Ok.at) c.as_slice.ensures.value c.in-Ok.ensures.found in
    let there = tablet_read c.args.state.now.tablets.items c.args.tablet c.in-Ok.at read c.requires.state.tablets.order found c.index.ensures in
    worked_quietly master c.nothing-in_default-gathered_from.result c.nothing-in_default-gathered_from.ensures.sends
    c.nothing-in_default-gathered_from.ensures.served c.nothing-in_default-gathered_from.ensures.marked
    ∙ stays_so master c.args.tablet (tablet_of read.1) there (sym c.gathered_from.ensures ∙ c.in_default-gathered_from.is)

pub close-requires-clause-gathering : goal.close-requires-clause-gathering
close-requires-clause-gathering c =
    let read : Row = c.index.result.now in
    let found = subst (λ (xs : List Row). IsAt c.args.tablet xs c.in-Ok.at) c.as_slice.ensures.value c.in-Ok.ensures.found in
    let there = tablet_read c.args.state.now.tablets.items c.args.tablet c.in-Ok.at read c.requires.state.tablets.order found c.index.ensures in
    ap (λ (t : Tablet). is_gathering t.handover.role) there
    ∙ is_gathering_so read.1.handover.role (next_reading (tablet_of read.1).gather) c.in-Some.from (sym c.gathered_from.ensures ∙ c.in-Some.is)

pub close-requires-clause-lawful : goal.close-requires-clause-lawful
close-requires-clause-lawful c =
    let master : Master = master_of c.args.state.now in
    let read : Row = c.index.result.now in
    let found = subst (λ (xs : List Row). IsAt c.args.tablet xs c.in-Ok.at) c.as_slice.ensures.value c.in-Ok.ensures.found in
    let there = tablet_read c.args.state.now.tablets.items c.args.tablet c.in-Ok.at read c.requires.state.tablets.order found c.index.ensures in
    let goes = goes_on_so master c.args.tablet (tablet_of read.1) c.in-Some.from c.in_ok-merged.merged refl there (sym c.gathered_from.ensures ∙ c.in-Some.is) c.in_ok-merged.ensures in
    subst (λ (worked : Worked). CanBeSpelled worked.master) goes c.requires.lawful

pub returns-clause-ok : goal.returns-clause-ok
returns-clause-ok c =
    let master : Master = master_of c.args.state.now in
    let read : Row = c.index.result.now in
    let found = subst (λ (xs : List Row). IsAt c.args.tablet xs c.in-Ok.at) c.as_slice.ensures.value c.in-Ok.ensures.found in
    let there = tablet_read c.args.state.now.tablets.items c.args.tablet c.in-Ok.at read c.requires.state.tablets.order found c.index.ensures in
    let goes = goes_on_so master c.args.tablet (tablet_of read.1) c.in-Some.from c.in_ok-merged.merged refl there (sym c.gathered_from.ensures ∙ c.in-Some.is) c.in_ok-merged.ensures in
    subst (λ (worked : Worked). IfOk c.close.result (λ (work : Work). worked_of (master_of c.close.new.state) work ≡ worked)) (sym goes) c.close.ensures.ok
