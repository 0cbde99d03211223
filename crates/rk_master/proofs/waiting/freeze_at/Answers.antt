use Rattle.rk_master.proofs.Words.{◌≡◌, true, not, List, Some, sym, ap, ◌∙◌, subst, NumberMap, Handover, Master, Entry, Tablet, tablet_of}
use Rattle.rk_master.proofs.Words.{Row, master_of}
use Rattle.rk_transfer.specs.Handover.{frozen}
use Rattle.rk_transfer.specs.declared.role.Role.TheVariants as roles
use Rattle.rk_world.specs.Master.{is_settled, touches}
use Rattle.std.specs.List.{list_any}
use Rattle.rk_master.proofs.Closable.{closable_in, lawful_read}
use Rattle.rk_master.proofs.GoingOn.{frozen_so}
use Rattle.rk_master.proofs.Places.{row_there, moved_there}
use Rattle.rk_master.proofs.waiting.freeze_at.Goals as goal

pub returns-clause-state : goal.returns-clause-state
returns-clause-state c = record {
  within = c.requires.state.within;
  staged = c.requires.state.staged;
  backups = c.requires.state.backups;
  tablets = lawful_read c.args.state.now.tablets.items c.args.at c.index_mut.result.now c.freeze.new.self c.requires.within c.index_mut.ensures.value c.requires.state.tablets
      (closable_in (tablet_of c.freeze.new.self) roles.Frozen c.freeze.ensures.role (λ it. tt));
  sides = c.requires.state.sides;
}

pub returns-clause-ok : goal.returns-clause-ok
returns-clause-ok c = λ row at.
    let master : Master = master_of c.args.state.now in
    let rows : List Row = c.args.state.now.tablets.items in
    let read : Row = c.index_mut.result.now in
    let handover : Handover = c.freeze.new.self.handover in
    let it_is : read ≡ row = c.index_mut.ensures.value ∙ row_there rows c.args.at read row c.requires.within at in
    let first_is : c.index.result.now ≡ row = c.index.ensures ∙ row_there rows c.args.at c.index.result.now row c.requires.within at in
    let moved : frozen row.1.handover row.1.handover.term ≡ Some handover = subst (λ (r : Row). frozen r.1.handover r.1.handover.term ≡ Some handover) it_is c.freeze.ensures.moved in
    let settled : is_settled master row.1.handover.range ≡ true = subst (λ (r : Row). is_settled master r.1.handover.range ≡ true) first_is
    (ap (λ (entries : List Entry). not (list_any (touches c.index.result.now.1.handover.range) entries)) (sym c.requires.state.staged.entries_are)
    ∙ sym c.is_settled.ensures ∙ c.if-not-is_settled.false) in
    ap (λ (tablets : NumberMap Tablet). record master { tablets = tablets })
    (moved_there rows c.args.at read row c.freeze.new.self handover c.requires.state.tablets.order c.requires.within c.index_mut.ensures.value at c.freeze.ensures.tablet)
    ∙ sym (frozen_so master row.0 (tablet_of row.1) handover (frozen row.1.handover row.1.handover.term) moved settled)
