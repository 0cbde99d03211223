use Rattle.rk_master.proofs.Words.{List, Option, sym, ap, ◌∙◌, records_of, Handover, Master, changed, tablet_of, Tablet, TabletLane, Row}
use Rattle.rk_master.proofs.Words.{master_of}
use Rattle.rk_transfer.specs.Handover.{released}
use Rattle.rk_transfer.specs.declared.role.Role.TheVariants as roles
use Rattle.rk_master.proofs.Closable.{closable_in, lawful_read}
use Rattle.rk_master.proofs.Handovers.{has_moved, not_moved, stays_so, released_role, with_rows, tablet_read, same_set, release_failed, release_made}
use Rattle.rk_master.proofs.orders.release.Goals as goal

pub returns-then-not-release-clause-ok : goal.returns-then-not-release-clause-ok
returns-then-not-release-clause-ok c =
    let master : Master = master_of c.args.state.now in
    let rows : List Row = c.args.state.now.tablets.items in
    let read : Row = c.index_mut.result.now in
    let moved : Option Handover = released read.1.handover c.args.tenure.term in
    let failed = sym c.release.ensures.answer ∙ c.if-not-release.true in
    let same = stays_so moved read.1.handover c.release.new.self failed c.release.ensures.after in
    let tablet = tablet_read rows c.args.tenure.tablet c.args.at read c.requires.state.tablets.order c.requires.place c.index_mut.ensures.value in
    ap (λ (held : List Row). changed (with_rows master held)) (same_set rows c.args.at read c.release.new.self same c.index_mut.ensures.value)
    ∙ release_failed master c.args.tenure (tablet_of read.1) tablet (not_moved moved failed)

pub returns-clause-state : goal.returns-clause-state
returns-clause-state c =
    let read : Row = c.index_mut.result.now in
    let handover : Handover = c.release.new.self in
    let moved = has_moved (released read.1.handover c.args.tenure.term) read.1.handover handover (sym c.release.ensures.answer ∙ c.if-not-release.false) c.release.ensures.after in
    let lane : TabletLane = c.forget_merged.new.self in
    let role = ap (λ (t : Tablet). t.handover.role) c.forget_merged.ensures ∙ released_role read.1.handover handover c.args.tenure.term moved in
    record {
      within = c.requires.state.within;
      staged = c.requires.state.staged;
      backups = c.requires.state.backups;
      tablets = lawful_read c.args.state.now.tablets.items c.args.at read lane c.requires.place.within c.index_mut.ensures.value c.requires.state.tablets
          (closable_in (tablet_of lane) roles.Absent role (λ it. tt));
      sides = c.requires.state.sides;
    }

pub returns-clause-ok : goal.returns-clause-ok
returns-clause-ok c =
    let master : Master = master_of c.args.state.now in
    let rows : List Row = c.args.state.now.tablets.items in
    let read : Row = c.index_mut.result.now in
    let handover : Handover = c.release.new.self in
    let moved = has_moved (released read.1.handover c.args.tenure.term) read.1.handover handover (sym c.release.ensures.answer ∙ c.if-not-release.false) c.release.ensures.after in
    release_made master (records_of c.drop_range.new.self) rows c.args.at read handover c.forget_merged.new.self c.args.tenure c.requires.state.tablets.order c.requires.place c.index_mut.ensures.value moved
    c.forget_merged.ensures c.drop_range.ensures.dropped
