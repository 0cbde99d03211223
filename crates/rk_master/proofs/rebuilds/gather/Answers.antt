use Rattle.rk_master.proofs.Words.{List, sym, ap, ◌∙◌, subst, Tablet, TabletLane, IsAt, Row, master_of}
use Rattle.rk_tablet.specs.Rebuilding.{is_awaiting}
use Rattle.rk_master.proofs.Closable.{lawful_read}
use Rattle.rk_master.proofs.Handovers.{none_lent, tablet_read}
use Rattle.rk_master.proofs.Rebuilt.{closable_same, gathered_at, ignored_at}
use Rattle.rk_master.proofs.rebuilds.gather.Goals as goal

pub returns-in_default-clause-awaited : goal.returns-in_default-clause-awaited
returns-in_default-clause-awaited c =
    let rows : List Row = c.args.state.now.tablets.items in
    sym (ap (λ (t : Tablet). is_awaiting t c.args.copy.now)
    (none_lent rows c.as_slice.result.now c.args.copy.now.tenure.tablet c.in_default.field-0 c.as_slice.ensures.value c.in_default.ensures.absent))

pub returns-clause-state : goal.returns-clause-state
returns-clause-state c =
    let rows : List Row = c.args.state.now.tablets.items in
    let read : Row = c.index_mut.result.now in
    let lane : TabletLane = c.gather_segment.new.self in
    let found = subst (λ (xs : List Row). IsAt c.args.copy.now.tenure.tablet xs c.in-Ok.at) c.as_slice.ensures.value c.in-Ok.ensures.found in
    record {
      within = c.requires.within;
      staged = c.requires.staged;
      backups = c.requires.backups;
      sides = c.requires.sides;
      tablets = lawful_read rows c.in-Ok.at read lane found.within c.index_mut.ensures.value c.requires.tablets
          (closable_same rows c.in-Ok.at read lane found.within c.index_mut.ensures.value c.requires.tablets.closable c.gather_segment.ensures.handover c.gather_segment.ensures.sealed);
    }

pub returns-clause-awaited : goal.returns-clause-awaited
returns-clause-awaited c =
    let rows : List Row = c.args.state.now.tablets.items in
    let found = subst (λ (xs : List Row). IsAt c.args.copy.now.tenure.tablet xs c.in-Ok.at) c.as_slice.ensures.value c.in-Ok.ensures.found in
    let there = tablet_read rows c.args.copy.now.tenure.tablet c.in-Ok.at c.index_mut.result.now c.requires.tablets.order found c.index_mut.ensures.value in
    c.in_ok-awaited.ensures.awaited ∙ ap (λ (t : Tablet). is_awaiting t c.args.copy.now) (sym there)

pub returns-clause-gathered : goal.returns-clause-gathered
returns-clause-gathered c =
    let rows : List Row = c.args.state.now.tablets.items in
    let found = subst (λ (xs : List Row). IsAt c.args.copy.now.tenure.tablet xs c.in-Ok.at) c.as_slice.ensures.value c.in-Ok.ensures.found in
    gathered_at (master_of c.args.state.now) rows c.in-Ok.at c.index_mut.result.now c.gather_segment.new.self c.args.copy.now c.in_ok-awaited.awaited c.requires.tablets.order found
    c.index_mut.ensures.value c.in_ok-awaited.ensures.gathered

pub returns-clause-ignored : goal.returns-clause-ignored
returns-clause-ignored c =
    let rows : List Row = c.args.state.now.tablets.items in
    let found = subst (λ (xs : List Row). IsAt c.args.copy.now.tenure.tablet xs c.in-Ok.at) c.as_slice.ensures.value c.in-Ok.ensures.found in
    ignored_at (master_of c.args.state.now) rows c.in-Ok.at c.index_mut.result.now c.gather_segment.new.self c.args.copy.now c.in_ok-awaited.awaited c.requires.tablets.order found
    c.index_mut.ensures.value c.in_ok-awaited.ensures.ignored
