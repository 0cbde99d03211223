use Rattle.rk_master.proofs.Words.{◌≡◌, ◌≤◌, ℕ, eqb, List, [], ◌∷◌, ◌++◌, length, length-append, arith, Some, None, refl, sym, ap, ◌∙◌}
use Rattle.rk_master.proofs.Words.{subst, IsLawfulEntry, Entry, Log, with_entry, joined, Handover, Master, with_handover, TabletLane}
use Rattle.rk_master.proofs.Words.{IsClosable, tablet_of, Row, AreSpelled, master_of}
use Rattle.rk_transfer.specs.declared.role.Role.TheVariants as roles
use Rattle.rk_master.proofs.Closable.{closable_in, lawful_read}
use Rattle.rk_master.proofs.Receiving.{closes_made, none_sealed, read_there, some_sealed, waits_made}
use Rattle.rk_master.proofs.pulled.end_at.Goals as goal

-- what was sealed, as it was lent
sealed_is : (numbers lent : List ℕ) (b : _) → lent ≡ numbers → b ≡ eqb (length lent) 0 → eqb (length numbers) 0 ≡ b
sealed_is numbers lent b same is = ap (λ (l : List ℕ). eqb (length l) 0) (sym same) ∙ sym is

pub returns-then-not-is_empty-clause-state : goal.returns-then-not-is_empty-clause-state
returns-then-not-is_empty-clause-state c =
    let rows : List Row = c.args.state.now.tablets.items in
    let read : Row = c.index_mut.result.now in
    let lane : TabletLane = c.end_pull.new.self in
    let lawful = c.requires.closes read (read_there rows c.args.at read c.requires.within c.index_mut.ensures.value) in
    let closable : IsClosable (with_handover (tablet_of read.1) (record read.1.handover { role = roles.Joining None })) = lawful in
    let same : tablet_of lane ≡ with_handover (tablet_of read.1) (record read.1.handover { role = roles.Joining None }) =
    c.end_pull.ensures.tablet ∙ ap (with_handover (tablet_of read.1)) c.end_pull.ensures.handover in
    record {
      within = c.requires.state.within;
      staged = c.requires.state.staged;
      backups = c.requires.state.backups;
      sides = c.requires.state.sides;
      tablets = lawful_read rows c.args.at read lane c.requires.within c.index_mut.ensures.value c.requires.state.tablets (subst IsClosable (sym same) closable);
    }

pub returns-then-not-is_empty-clause-ok : goal.returns-then-not-is_empty-clause-ok
returns-then-not-is_empty-clause-ok c = λ number at.
    let read : Row = c.index_mut.result.now in
    let some = some_sealed read.1.sealed (sealed_is read.1.sealed c.as_slice.result.now c.is_empty.result c.as_slice.ensures c.is_empty.ensures ∙ c.if-not-is_empty.true) in
    waits_made (master_of c.args.state.now) c.args.state.now.tablets.items number c.args.at read c.end_pull.new.self c.requires.state.tablets.order at c.index_mut.ensures.value
    some c.end_pull.ensures.moved c.end_pull.ensures.tablet

pub end_pull-requires : goal.end_pull-requires
end_pull-requires c = c.requires.pulls c.index_mut.result.now (read_there c.args.state.now.tablets.items c.args.at c.index_mut.result.now c.requires.within c.index_mut.ensures.value)

pub end_pull-requires-2 : goal.end_pull-requires-2
end_pull-requires-2 c = c.requires.pulls c.index_mut.result.now (read_there c.args.state.now.tablets.items c.args.at c.index_mut.result.now c.requires.within c.index_mut.ensures.value)

pub append-requires : goal.append-requires
append-requires c =
    let rows : List Row = c.args.state.now.tablets.items in
    let read : Row = c.index_mut.result.now in
    subst IsLawfulEntry (sym c.in_ok-entry.ensures) (c.requires.closes read (read_there rows c.args.at read c.requires.within c.index_mut.ensures.value))

pub returns-clause-state : goal.returns-clause-state
returns-clause-state c =
    let rows : List Row = c.args.state.now.tablets.items in
    let read : Row = c.index_mut.result.now in
    let lane : TabletLane = c.end_pull-2.new.self in
    let entries : List Entry = c.args.state.now.log.entries in
    let before : c.args.state.now.applied ≤ length entries = c.requires.state.within in
    let longer : c.args.state.now.applied ≤ length (entries ++ c.in_ok-entry.entry ∷ []) = omega (arith, before, length-append entries (c.in_ok-entry.entry ∷ [])) in
    record {
      within = subst (λ (log : Log). c.args.state.now.applied ≤ length log.entries) (sym c.in_ok-append.ensures.log) longer;
      staged = c.in_ok-append.ensures.staged c.args.state.now.applied before c.requires.state.staged;
      backups = ap (λ (log : Log). length log.known) c.in_ok-append.ensures.log ∙ c.requires.state.backups;
      sides = subst (λ (log : Log). AreSpelled log.sides) (sym c.in_ok-append.ensures.log) c.requires.state.sides;
      tablets = lawful_read rows c.args.at read lane c.requires.within c.index_mut.ensures.value c.requires.state.tablets
          (closable_in (tablet_of lane) (roles.Joining (Some c.length.result)) (ap (λ (h : Handover). h.role) c.end_pull-2.ensures.handover) (λ it. tt));
    }

pub returns-clause-ok : goal.returns-clause-ok
returns-clause-ok c = λ number at.
    let master : Master = master_of c.args.state.now in
    let read : Row = c.index_mut.result.now in
    let none = none_sealed read.1.sealed (sealed_is read.1.sealed c.as_slice.result.now c.is_empty.result c.as_slice.ensures c.is_empty.ensures ∙ c.if-not-is_empty.false) in
    let moved = ap (λ (n : ℕ). joined read.1.handover read.1.handover.term (Some n)) (sym c.length.ensures) ∙ c.end_pull-2.ensures.moved in
    closes_made master c.append.new.log c.args.state.now.tablets.items number c.args.at read c.end_pull-2.new.self refl c.requires.state.tablets.order at c.index_mut.ensures.value
    none moved c.end_pull-2.ensures.tablet (c.in_ok-append.ensures.log ∙ ap (with_entry master.log) c.in_ok-entry.ensures)
