use Rattle.rk_master.proofs.Words.{◌≡◌, ◌≤◌, true, false, ℕ, arith, length-append, [], ◌∷◌, ◌++◌, List, length, Option, Some, sym, ap, ◌∙◌}
use Rattle.rk_master.proofs.Words.{subst, slice_get-get_or, IsLawfulEntry, Entry, joined, Handover, Role, Log, with_entry, Master}
use Rattle.rk_master.proofs.Words.{joined_entry, can_close, IsClosable, tablet_of, Row, AreSpelled, items_of_sides, master_of}
use Rattle.rk_transfer.specs.declared.role.Role.TheVariants as roles
use Rattle.rk_world.specs.Waiting.{is_sealed_stored}
use Rattle.rk_master.proofs.Closable.{closable_at, closable_in, closing_joined, lawful_read}
use Rattle.rk_master.proofs.GoingOn.{closed_so, still_waits}
use Rattle.rk_master.proofs.Places.{row_there, moved_there}
use Rattle.rk_master.proofs.waiting.close_at.Goals as goal

pub returns-then-not-is_sealed_stored-clause-ok : goal.returns-then-not-is_sealed_stored-clause-ok
returns-then-not-is_sealed_stored-clause-ok c = λ row at.
    let master : Master = master_of c.args.state.now in
    let rows : List Row = c.args.state.now.tablets.items in
    let it_is : c.index.result.now ≡ row = c.index.ensures ∙ row_there rows c.args.at c.index.result.now row c.requires.within at in
    let waits : is_sealed_stored master (tablet_of row.1) ≡ false = subst (λ (r : Row). is_sealed_stored master (tablet_of r.1) ≡ false) it_is (sym c.is_sealed_stored.ensures ∙ c.if-not-is_sealed_stored.true) in
    sym (still_waits master row.0 (tablet_of row.1) waits)

pub join-requires : goal.join-requires
join-requires c =
    let rows : List Row = c.args.state.now.tablets.items in
    c.requires.role c.index_mut.result.now (slice_get-get_or rows c.args.at c.index_mut.result.now c.requires.within ∙ ap (λ (r : Row). Some r) (sym c.index_mut.ensures.value))

pub append-requires : goal.append-requires
append-requires c =
    let rows : List Row = c.args.state.now.tablets.items in
    let there = slice_get-get_or rows c.args.at c.index.result.now c.requires.within ∙ ap (λ (r : Row). Some r) (sym c.index.ensures) in
    let closable : IsClosable (tablet_of c.index.result.now.1) = subst (λ (r : Row). IsClosable (tablet_of r.1)) (sym c.index.ensures) (closable_at rows c.args.at c.index.result.now c.requires.within c.requires.state.tablets.closable) in
    subst IsLawfulEntry (sym c.in_ok-entry.ensures) (subst (λ (r : Role). can_close r (closing_joined (tablet_of c.index.result.now.1))) (c.requires.role c.index.result.now there) closable)

pub returns-clause-state : goal.returns-clause-state
returns-clause-state c =
    let entries : List Entry = c.args.state.now.log.entries in
    let before : c.args.state.now.applied ≤ length entries = c.requires.state.within in
    let longer : c.args.state.now.applied ≤ length (entries ++ c.in_ok-entry.entry ∷ []) = omega (arith, before, length-append entries (c.in_ok-entry.entry ∷ [])) in
    record {
      within = subst (λ (log : Log). c.args.state.now.applied ≤ length log.entries) (sym c.in_ok-append.ensures.log) longer;
      staged = c.in_ok-append.ensures.staged c.args.state.now.applied before c.requires.state.staged;
      tablets = lawful_read c.args.state.now.tablets.items c.args.at c.index_mut.result.now c.join.new.self c.requires.within c.index_mut.ensures.value c.requires.state.tablets
          (closable_in (tablet_of c.join.new.self) (roles.Joining (Some c.length-place.result)) c.join.ensures.role (λ it. tt));
      sides = subst (λ (log : Log). AreSpelled log.sides) (sym c.in_ok-append.ensures.log) c.requires.state.sides;
      backups = ap (λ (log : Log). length log.known) c.in_ok-append.ensures.log ∙ c.requires.state.backups;
    }

pub returns-clause-ok : goal.returns-clause-ok
returns-clause-ok c = λ row at.
    let master : Master = master_of c.args.state.now in
    let rows : List Row = c.args.state.now.tablets.items in
    let read : Row = c.index_mut.result.now in
    let handover : Handover = c.join.new.self.handover in
    let it_is : read ≡ row = c.index_mut.ensures.value ∙ row_there rows c.args.at read row c.requires.within at in
    let first_is : c.index.result.now ≡ row = c.index.ensures ∙ row_there rows c.args.at c.index.result.now row c.requires.within at in
    let place : Option ℕ = Some (length master.log.entries) in
    let moved : joined row.1.handover row.1.handover.term place ≡ Some handover =
    subst (λ (r : Row). joined r.1.handover r.1.handover.term place ≡ Some handover) it_is (ap (λ (n : ℕ). joined read.1.handover read.1.handover.term (Some n)) (sym c.length-place.ensures) ∙ c.join.ensures.moved) in
    let stored : is_sealed_stored master (tablet_of row.1) ≡ true = subst (λ (r : Row). is_sealed_stored master (tablet_of r.1) ≡ true) first_is (sym c.is_sealed_stored.ensures ∙ c.if-not-is_sealed_stored.false) in
    let log = c.in_ok-append.ensures.log ∙ ap (with_entry master.log) (c.in_ok-entry.ensures ∙ ap (λ (r : Row). joined_entry (tablet_of r.1)) first_is) in
    let tablets = moved_there rows c.args.at read row c.join.new.self handover c.requires.state.tablets.order c.requires.within c.index_mut.ensures.value at c.join.ensures.tablet in
    (λ i. record master { log = log i; sides = items_of_sides (log i).sides; tablets = tablets i })
    ∙ sym (closed_so master row.0 (tablet_of row.1) handover stored moved)
