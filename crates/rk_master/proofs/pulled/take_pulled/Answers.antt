use Rattle.rk_master.proofs.Words.{List, refl, sym, subst, ◌∙◌, Master, tablet_of, IsAt, Row, master_of, no_tablet}
use Rattle.rk_master.proofs.Handovers.{none_lent, tablet_read, worked_quietly}
use Rattle.rk_master.proofs.Receiving.{awaits_pulls, pulled_failed, pulled_made}
use Rattle.rk_master.proofs.pulled.take_pulled.Goals as goal

pub returns-in_default-clause-ok : goal.returns-in_default-clause-ok
returns-in_default-clause-ok c =
    let master : Master = master_of c.args.state.now in
    let rows : List Row = c.args.state.now.tablets.items in
    worked_quietly master c.nothing.result c.nothing.ensures.sends c.nothing.ensures.served c.nothing.ensures.marked
    ∙ pulled_failed master c.args.pulled.now no_tablet
    (none_lent rows c.as_slice.result.now c.args.pulled.now.tenure.tablet c.in_default.field-0 c.as_slice.ensures.value c.in_default.ensures.absent) refl

pub returns-then-not-awaits-clause-ok : goal.returns-then-not-awaits-clause-ok
returns-then-not-awaits-clause-ok c =
    let master : Master = master_of c.args.state.now in
    let read : Row = c.index.result.now in
    let found = subst (λ (xs : List Row). IsAt c.args.pulled.now.tenure.tablet xs c.in-Ok.at) c.as_slice.ensures.value c.in-Ok.ensures.found in
    let tablet = tablet_read c.args.state.now.tablets.items c.args.pulled.now.tenure.tablet c.in-Ok.at read c.requires.state.tablets.order found c.index.ensures in
    worked_quietly master c.nothing-then-not-awaits.result c.nothing-then-not-awaits.ensures.sends
    c.nothing-then-not-awaits.ensures.served c.nothing-then-not-awaits.ensures.marked
    ∙ pulled_failed master c.args.pulled.now (tablet_of read.1) tablet (sym c.awaits.ensures ∙ c.if-not-awaits.true)

pub pull_on-requires-clause-place : goal.pull_on-requires-clause-place
pull_on-requires-clause-place c = subst (λ (xs : List Row). IsAt c.args.pulled.now.tenure.tablet xs c.in-Ok.at) c.as_slice.ensures.value c.in-Ok.ensures.found

pub pull_on-requires-clause-pulls : goal.pull_on-requires-clause-pulls
pull_on-requires-clause-pulls c =
    let found = subst (λ (xs : List Row). IsAt c.args.pulled.now.tenure.tablet xs c.in-Ok.at) c.as_slice.ensures.value c.in-Ok.ensures.found in
    awaits_pulls c.args.state.now.tablets.items c.in-Ok.at c.index.result.now c.args.pulled.now found.within c.index.ensures (sym c.awaits.ensures ∙ c.if-not-awaits.false)

pub returns-clause-ok : goal.returns-clause-ok
returns-clause-ok c =
    let master : Master = master_of c.args.state.now in
    let now : Master = master_of c.pull_on.new.state in
    let read : Row = c.index.result.now in
    let found = subst (λ (xs : List Row). IsAt c.args.pulled.now.tenure.tablet xs c.in-Ok.at) c.as_slice.ensures.value c.in-Ok.ensures.found in
    let tablet = tablet_read c.args.state.now.tablets.items c.args.pulled.now.tenure.tablet c.in-Ok.at read c.requires.state.tablets.order found c.index.ensures in
    worked_quietly now c.nothing-2.result c.nothing-2.ensures.sends c.nothing-2.ensures.served c.nothing-2.ensures.marked
    ∙ pulled_made master now c.args.pulled.now (tablet_of read.1) tablet (sym c.awaits.ensures ∙ c.if-not-awaits.false) c.in_ok-pull_on.ensures.ok
