use Rattle.rk_master.proofs.Words.{◌≡◌, ◌≤◌, List, [], ◌∷◌, ◌++◌, length, length-append, arith, Option, refl, sym, ap, ◌∙◌, subst}
use Rattle.rk_master.proofs.Words.{completions_from, IsLawfulEntry, Entry, Log, with_entry, Handover, Master, Tablet, pulling_from}
use Rattle.rk_master.proofs.Words.{without_merged, changed, tablet_of, Row, AreSpelled, master_of}
use Rattle.rk_done.specs.Completions.{Completions}
use Rattle.rk_transfer.specs.Handover.{granted}
use Rattle.rk_master.proofs.Closable.{lawful_read}
use Rattle.rk_master.proofs.Handovers.{has_moved, not_moved, stays_so, granted_role, moved_lane, with_rows, tablet_read, same_set, grant_failed, grant_made, grant_closable, grant_lawful}
use Rattle.rk_master.proofs.orders.receive.Goals as goal

pub returns-then-not-grant-clause-ok : goal.returns-then-not-grant-clause-ok
returns-then-not-grant-clause-ok c =
    let master : Master = master_of c.args.state.now in
    let rows : List Row = c.args.state.now.tablets.items in
    let read : Row = c.index_mut.result.now in
    let moved : Option Handover = granted read.1.handover c.args.grant.now.tenure.term c.args.grant.now.floor in
    let failed = sym c.grant.ensures.answer ∙ c.if-not-grant.true in
    let same = stays_so moved read.1.handover c.grant.new.self failed c.grant.ensures.after in
    let tablet = tablet_read rows c.args.grant.now.tenure.tablet c.args.at read c.requires.state.tablets.order c.requires.place c.index_mut.ensures.value in
    ap (λ (held : List Row). changed (with_rows master held)) (same_set rows c.args.at read c.grant.new.self same c.index_mut.ensures.value)
    ∙ grant_failed master c.args.grant.now (tablet_of read.1) tablet (not_moved moved failed)

pub append-requires : goal.append-requires
append-requires c =
    let read : Row = c.index_mut.result.now in
    let handover : Handover = c.grant.new.self in
    let moved = has_moved (granted read.1.handover c.args.grant.now.tenure.term c.args.grant.now.floor) read.1.handover handover (sym c.grant.ensures.answer ∙ c.if-not-grant.false) c.grant.ensures.after in
    subst IsLawfulEntry (sym c.in_ok-entry.ensures)
    (grant_lawful c.args.state.now.tablets.items c.args.at read (master_of c.args.state.now) handover c.args.grant.now c.requires.state.tablets.order c.requires.place c.index_mut.ensures.value moved c.requires.lawful)

pub returns-clause-state : goal.returns-clause-state
returns-clause-state c =
    let read : Row = c.index_mut.result.now in
    let handover : Handover = c.grant.new.self in
    let moved = has_moved (granted read.1.handover c.args.grant.now.tenure.term c.args.grant.now.floor) read.1.handover handover (sym c.grant.ensures.answer ∙ c.if-not-grant.false) c.grant.ensures.after in
    let same : c.pull_from.new.self.handover ≡ handover = ap (λ (t : Tablet). t.handover) c.pull_from.ensures in
    let lawful = grant_lawful c.args.state.now.tablets.items c.args.at read (master_of c.args.state.now) handover c.args.grant.now c.requires.state.tablets.order c.requires.place c.index_mut.ensures.value moved c.requires.lawful in
    let closable = grant_closable c.pull_from.new.self handover c.args.grant.now same (granted_role read.1.handover handover c.args.grant.now.tenure.term c.args.grant.now.floor moved) lawful in
    let entries : List Entry = c.args.state.now.log.entries in
    let entry : Entry = c.in_ok-entry.entry in
    let before : c.args.state.now.applied ≤ length entries = c.requires.state.within in
    let longer : c.args.state.now.applied ≤ length (entries ++ entry ∷ []) = omega (arith, before, length-append entries (entry ∷ [])) in
    record {
      within = subst (λ (log : Log). c.args.state.now.applied ≤ length log.entries) (sym c.in_ok-append.ensures.log) longer;
      staged = c.in_ok-append.ensures.staged c.args.state.now.applied before c.requires.state.staged;
      backups = ap (λ (log : Log). length log.known) c.in_ok-append.ensures.log ∙ c.requires.state.backups;
      tablets = lawful_read c.args.state.now.tablets.items c.args.at read c.pull_from.new.self c.requires.place.within c.index_mut.ensures.value c.requires.state.tablets closable;
      sides = subst (λ (log : Log). AreSpelled log.sides) (sym c.in_ok-append.ensures.log) c.requires.state.sides;
    }

pub returns-clause-ok : goal.returns-clause-ok
returns-clause-ok c =
    let master : Master = master_of c.args.state.now in
    let rows : List Row = c.args.state.now.tablets.items in
    let read : Row = c.index_mut.result.now in
    let handover : Handover = c.grant.new.self in
    let moved = has_moved (granted read.1.handover c.args.grant.now.tenure.term c.args.grant.now.floor) read.1.handover handover (sym c.grant.ensures.answer ∙ c.if-not-grant.false) c.grant.ensures.after in
    let log = c.in_ok-append.ensures.log ∙ ap (with_entry master.log) c.in_ok-entry.ensures in
    let completions = c.in_ok-tablet.ensures ∙ ap (completions_from []) c.as_slice.ensures in
    let lane = c.pull_from.ensures
    ∙ ap (λ (ends : Completions). record (without_merged (tablet_of (moved_lane read.1 handover))) { completions = ends; pulling = pulling_from c.args.grant.now.source }) completions in
    grant_made master c.append.new.log rows c.args.at read handover c.pull_from.new.self c.args.grant.now refl c.requires.state.tablets.order c.requires.place c.index_mut.ensures.value moved log lane
