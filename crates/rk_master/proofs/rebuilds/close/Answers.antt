use Rattle.rk_master.proofs.Words.{◌≡◌, ◌≤◌, ℕ, List, length, set, Some, refl, sym, ap, ◌∙◌, subst, arith, All, insert, IsLawfulEntry}
use Rattle.rk_master.proofs.Words.{IsLawfulHeld, Log, with_entry, Master, is_gathering, Tablet, TabletLane, tablet_in, tablet_of}
use Rattle.rk_master.proofs.Words.{tablets_of, Row, with_items, AreSpelled, master_of}
use Rattle.rk_transfer.specs.Handover.{carried}
use Rattle.rk_world.specs.Rebuilds.{merged_at, rebuilt_entry}
use Rattle.rk_world.specs.declared.work.Mark.{Mark}
use Rattle.rk_world.specs.declared.work.Merged.{Merged}
use Rattle.rk_master.proofs.Closable.{closable_else, lawful_read}
use Rattle.rk_master.proofs.Handovers.{changed_read, tablet_read}
use Rattle.rk_master.proofs.Rebuilt.{carried_stays, closes_so, closing_lawful, copies_lawful, items_longer, log_closes, not_joining, not_receiving, one_longer}
use Rattle.rk_master.proofs.rebuilds.close.Goals as goal

pub append_items-requires : goal.append_items-requires
append_items-requires c =
    let master : Master = master_of c.args.state.now in
    let tablet : Tablet = tablet_in c.args.state.now.tablets.items c.args.tablet in
    subst (All IsLawfulHeld) (sym c.into_vec.ensures) (copies_lawful master c.args.tablet tablet c.args.merged c.requires.gathering c.requires.lawful)

pub close_rebuild-requires : goal.close_rebuild-requires
close_rebuild-requires c =
    let read : Row = c.index_mut.result.now in
    let there = tablet_read c.args.state.now.tablets.items c.args.tablet c.args.at read c.requires.state.tablets.order c.requires.place c.index_mut.ensures.value in
    ap (λ (t : Tablet). is_gathering t.handover.role) (sym there) ∙ c.requires.gathering

pub append-requires : goal.append-requires
append-requires c =
    let master : Master = master_of c.args.state.now in
    let rows : List Row = c.args.state.now.tablets.items in
    let read : Row = c.index_mut.result.now in
    let there = tablet_read rows c.args.tablet c.args.at read c.requires.state.tablets.order c.requires.place c.index_mut.ensures.value in
    subst IsLawfulEntry (ap (λ (t : Tablet). rebuilt_entry t c.args.merged) there ∙ sym c.in_ok-closing.ensures.entry)
    (closing_lawful master c.args.tablet (tablet_in rows c.args.tablet) c.args.merged c.requires.gathering c.requires.lawful)

pub returns-clause-state : goal.returns-clause-state
returns-clause-state c =
    let log : Log = c.args.state.now.log in
    let applied : ℕ = c.args.state.now.applied in
    let read : Row = c.index_mut.result.now in
    let lane : TabletLane = c.close_rebuild.new.self in
    let merged : Merged = c.args.merged in
    let moved = c.close_rebuild.ensures.moved in
    let within : applied ≤ length log.entries = c.requires.state.within in
    let items = c.in_ok-append_items.ensures.log ∙ ap (with_items log) c.into_vec.ensures in
    let longer : applied ≤ length c.append_items.new.log.entries = items_longer log c.append_items.new.log merged.copies applied items within in
    let closed = log_closes log c.append_items.new.log c.append.new.log merged.copies c.in_ok-closing.closing items c.in_ok-append.ensures.log in
    record {
      within = omega (arith, longer, one_longer c.append.new.log c.append_items.new.log c.in_ok-closing.closing c.in_ok-append.ensures.log);
      staged = c.in_ok-append.ensures.staged applied longer (c.in_ok-append_items.ensures.staged applied within c.requires.state.staged);
      backups = ap (λ (l : Log). length l.known) closed ∙ c.requires.state.backups;
      sides = subst (λ (l : Log). AreSpelled l.sides) (sym closed) c.requires.state.sides;
      tablets = lawful_read c.args.state.now.tablets.items c.args.at read lane c.requires.place.within c.index_mut.ensures.value c.requires.state.tablets
          (closable_else (tablet_of lane) (not_receiving read.1.handover lane.handover read.1.handover.term c.length-place.result merged.floor moved)
          (not_joining read.1.handover lane.handover read.1.handover.term c.length-place.result merged.floor moved));
    }

pub returns-clause-ok : goal.returns-clause-ok
returns-clause-ok c =
    let master : Master = master_of c.args.state.now in
    let rows : List Row = c.args.state.now.tablets.items in
    let read : Row = c.index_mut.result.now in
    let lane : TabletLane = c.close_rebuild.new.self in
    let merged : Merged = c.args.merged in
    let there = tablet_read rows c.args.tablet c.args.at read c.requires.state.tablets.order c.requires.place c.index_mut.ensures.value in
    let items = c.in_ok-append_items.ensures.log ∙ ap (with_items master.log) c.into_vec.ensures in
    let carries = subst (λ (place : ℕ). carried read.1.handover read.1.handover.term place merged.floor ≡ Some lane.handover) c.length-place.ensures c.close_rebuild.ensures.moved in
    let log = c.in_ok-append.ensures.log ∙ ap (with_entry c.append_items.new.log) c.in_ok-closing.ensures.entry in
    let tablets = changed_read rows c.args.tablet c.args.at read lane c.requires.state.tablets.order c.requires.place c.index_mut.ensures.value
    ∙ ap (insert (tablets_of rows) c.args.tablet) c.in_ok-closing.ensures.tablet in
    let past = c.length-past.ensures ∙ one_longer c.append.new.log c.append_items.new.log c.in_ok-closing.closing c.in_ok-append.ensures.log in
    let term = sym (carried_stays read.1.handover lane.handover read.1.handover.term (length c.append_items.new.log.entries) merged.floor carries).0 in
    let mark : Mark = record { master = master.number; first = c.length-first.result; past = c.length-past.result; tablet = c.args.tablet; term = read.1.handover.term } in
    closes_so master c.append_items.new.log c.append.new.log (tablets_of (set rows c.args.at (read.0, lane))) c.args.tablet (tablet_of read.1) merged lane.handover
    (record c.nothing-work.result { marked = Some mark }) mark refl items carries log tablets c.nothing-work.ensures.sends c.nothing-work.ensures.served refl
    (λ i. record { master = master.number; first = c.length-first.ensures i; past = past i; tablet = c.args.tablet; term = term i })
    ∙ ap (λ (t : Tablet). merged_at master c.args.tablet t merged) (sym there)
