use Rattle.rk_master.proofs.Words.{List, ◌&&◌, ap, refl, sym, subst, ◌∙◌, Master, Tablet, no_tablet, is_batch, tablet_of, IsAt, Row}
use Rattle.rk_master.proofs.Words.{master_of}
use Rattle.rk_world.specs.RoleTests.{is_receiving_at}
use Rattle.rk_master.proofs.Handovers.{none_lent, tablet_read, worked_quietly}
use Rattle.rk_master.proofs.Receiving.{got_failed}
use Rattle.rk_master.proofs.pulled.take_got.Goals as goal

pub returns-in_default-clause-ok : goal.returns-in_default-clause-ok
returns-in_default-clause-ok c =
    let master : Master = master_of c.args.state.now in
    let rows : List Row = c.args.state.now.tablets.items in
    worked_quietly master c.nothing.result c.nothing.ensures.sends c.nothing.ensures.served c.nothing.ensures.marked
    ∙ got_failed master c.args.got.now no_tablet
    (none_lent rows c.as_slice.result.now c.args.got.now.tenure.tablet c.in_default.field-0 c.as_slice.ensures.value c.in_default.ensures.absent) refl

pub returns-then-not-is_receiving_at-clause-ok : goal.returns-then-not-is_receiving_at-clause-ok
returns-then-not-is_receiving_at-clause-ok c =
    let master : Master = master_of c.args.state.now in
    let read : Row = c.index.result.now in
    let found = subst (λ (xs : List Row). IsAt c.args.got.now.tenure.tablet xs c.in-Ok.at) c.as_slice.ensures.value c.in-Ok.ensures.found in
    let tablet = tablet_read c.args.state.now.tablets.items c.args.got.now.tenure.tablet c.in-Ok.at read c.requires.state.tablets.order found c.index.ensures in
    let failed = sym c.is_receiving_at.ensures ∙ c.if-not-is_receiving_at.true in
    worked_quietly master c.nothing-then-not-is_receiving_at.result c.nothing-then-not-is_receiving_at.ensures.sends
    c.nothing-then-not-is_receiving_at.ensures.served c.nothing-then-not-is_receiving_at.ensures.marked
    ∙ got_failed master c.args.got.now (tablet_of read.1) tablet (ap (λ b. b && is_batch read.1.wanted.outstanding c.args.got.now.hashes) failed)

pub resolve-requires-clause-place : goal.resolve-requires-clause-place
resolve-requires-clause-place c = subst (λ (xs : List Row). IsAt c.args.got.now.tenure.tablet xs c.in-Ok.at) c.as_slice.ensures.value c.in-Ok.ensures.found

pub resolve-requires-clause-pulls : goal.resolve-requires-clause-pulls
resolve-requires-clause-pulls c =
    let read : Row = c.index.result.now in
    let found = subst (λ (xs : List Row). IsAt c.args.got.now.tenure.tablet xs c.in-Ok.at) c.as_slice.ensures.value c.in-Ok.ensures.found in
    let tablet = tablet_read c.args.state.now.tablets.items c.args.got.now.tenure.tablet c.in-Ok.at read c.requires.state.tablets.order found c.index.ensures in
    ap (λ (t : Tablet). is_receiving_at t c.args.got.now.tenure.term) tablet ∙ sym c.is_receiving_at.ensures ∙ c.if-not-is_receiving_at.false

pub returns-clause-ok : goal.returns-clause-ok
returns-clause-ok c =
    worked_quietly (master_of c.resolve.new.state) c.nothing-2.result c.nothing-2.ensures.sends c.nothing-2.ensures.served c.nothing-2.ensures.marked
    ∙ c.in_ok-resolve.ensures.ok
