use Rattle.rk_master.proofs.Words.{◌≡◌, ◌+◌, ◌≤◌, List, length, map, refl, sym, ap, ◌∙◌, subst, w64, IsLawfulRange, IsLawfulEntry, IsNumber}
use Rattle.rk_master.proofs.Words.{FIRST_SIDE_SEGMENT, Log, spelled_items, Held, Master, Tablet, joined_entry, TabletLane, AreStagedFrom}
use Rattle.rk_master.proofs.Words.{tablet_of, Row, with_sides, AreSpelled, master_of}
use Rattle.rk_side_log.proofs.CutItems.{sealed_lawful}
use Rattle.rk_world.specs.SideLogs.{sealed_sides}
use Rattle.rk_tablet.specs.Pulls.{with_sealed}
use Rattle.rk_master.proofs.Closable.{closable_as, lawful_read}
use Rattle.rk_master.proofs.Handovers.{at_set}
use Rattle.rk_master.proofs.Receiving.{closable_read, closes_set, joined_lawful, names_itself, pulls_still, read_there, sealing_made, spelled_added}
use Rattle.rk_master.proofs.pulled.seal_at.Goals as goal

pub returns-clause-state : goal.returns-clause-state
returns-clause-state c =
    let rows : List Row = c.args.state.now.tablets.items in
    let read : Row = c.index_mut.result.now in
    let lane : TabletLane = c.note_sealed.new.self in
    let log : Log = c.args.state.now.log in
    let role = ap (λ (t : Tablet). t.handover.role) c.note_sealed.ensures ∙ c.requires.pulls read (read_there rows c.args.at read c.requires.within c.index_mut.ensures.value) in
    let named = names_itself (tablet_of read.1) (c.requires.pulls read (read_there rows c.args.at read c.requires.within c.index_mut.ensures.value))
    (closable_read rows c.args.at read c.requires.within c.index_mut.ensures.value c.requires.state.tablets) in
    let staged_log = subst (λ (l : Log). AreStagedFrom c.args.state.now.applied c.args.state.now.staged l.entries) (sym c.in_ok-sealed.ensures.log) c.requires.state.staged in
    let lists : List (List Held) = sealed_sides read.1.sides in
    let log_is : c.add_sides.new.log ≡ with_sides log (map spelled_items lists) = c.in_ok-sealed.ensures.log ∙ ap (with_sides log) c.seal-segments.ensures.bytes in
    record {
      within = subst (λ (l : Log). c.args.state.now.applied ≤ length l.entries) (sym c.in_ok-sealed.ensures.log) c.requires.state.within;
      staged = staged_log;
      backups = ap (λ (l : Log). length l.known) c.in_ok-sealed.ensures.log ∙ c.requires.state.backups;
      sides = subst (λ (l : Log). AreSpelled l.sides) (sym log_is) (spelled_added log lists (sealed_lawful read.1.sides c.seal-segments.ensures.lawful) c.requires.state.sides);
      tablets = lawful_read rows c.args.at read lane c.requires.within c.index_mut.ensures.value c.requires.state.tablets
          (closable_as (tablet_of lane) role (subst (λ (t : Tablet). IsLawfulRange t.handover.range × IsNumber w64 1 t.handover.term) (sym c.note_sealed.ensures) named));
    }

pub returns-clause-pulls : goal.returns-clause-pulls
returns-clause-pulls c =
    pulls_still c.args.state.now.tablets.items c.args.at c.index_mut.result.now c.note_sealed.new.self c.requires.within c.index_mut.ensures.value c.requires.pulls
    (ap (λ (t : Tablet). t.handover) c.note_sealed.ensures)

pub returns-clause-closes : goal.returns-clause-closes
returns-clause-closes c =
    let rows : List Row = c.args.state.now.tablets.items in
    let read : Row = c.index_mut.result.now in
    let lane : TabletLane = c.note_sealed.new.self in
    let named = names_itself (tablet_of read.1) (c.requires.pulls read (read_there rows c.args.at read c.requires.within c.index_mut.ensures.value))
    (closable_read rows c.args.at read c.requires.within c.index_mut.ensures.value c.requires.state.tablets) in
    let lawful = joined_lawful read.1.handover.range read.1.handover.term (FIRST_SIDE_SEGMENT + length c.args.state.now.log.sides) (length c.seal-segments.result.items) c.in_ok-sealed.sealed
    named c.in_ok-sealed.ensures.numbers c.in_ok-sealed.ensures.few c.in_ok-sealed.ensures.each in
    closes_set rows c.args.at (read.0, lane) c.requires.within
    (subst (λ (t : Tablet). IsLawfulEntry (joined_entry t)) (sym c.note_sealed.ensures) lawful)

pub returns-clause-place : goal.returns-clause-place
returns-clause-place c = λ number at. at_set c.args.state.now.tablets.items number c.args.at c.index_mut.result.now c.note_sealed.new.self at c.index_mut.ensures.value

pub returns-clause-ok : goal.returns-clause-ok
returns-clause-ok c = λ number at.
    let master : Master = master_of c.args.state.now in
    let rows : List Row = c.args.state.now.tablets.items in
    let read : Row = c.index_mut.result.now in
    let lane = c.note_sealed.ensures ∙ ap (λ (sides : List (List Held)). with_sealed (tablet_of read.1) sides c.in_ok-sealed.sealed) c.seal-segments.ensures.empty in
    sealing_made master c.add_sides.new.log rows number c.args.at read c.note_sealed.new.self c.seal-segments.result.items c.in_ok-sealed.sealed
    c.requires.state.tablets.order at c.index_mut.ensures.value refl c.seal-segments.ensures.lawful c.seal-segments.ensures.bytes c.in_ok-sealed.ensures.log c.in_ok-sealed.ensures.numbers lane
