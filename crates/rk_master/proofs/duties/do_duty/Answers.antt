use Rattle.rk_master.proofs.Words.{◌≡◌, refl, ap, ◌∙◌, tablet_of, Row, master_of}
use Rattle.rk_master.proofs.Places.{row_there}
use Rattle.rk_master.proofs.TurnDuties.{no_duty}
use Rattle.rk_master.proofs.duties.do_duty.Goals as goal

pub returns-in_default : goal.returns-in_default
returns-in_default c = record {
  state = c.requires.state;
  ok = λ row at.
      let it_is : c.index.result.now ≡ row = c.index.ensures ∙ row_there c.args.state.now.tablets.items c.args.at c.index.result.now row c.requires.within at in
      no_duty c.args.work.now (master_of c.args.state.now) row.0 (tablet_of row.1) row.1.handover.role
      (λ receives. c.in_default.not-Receiving (ap (λ (r : Row). r.1.handover.role) it_is ∙ receives))
      (λ entry joins. c.in_default.not-Joining entry (ap (λ (r : Row). r.1.handover.role) it_is ∙ joins))
      (λ from entry rebuilds. c.in_default.not-Rebuilding from entry (ap (λ (r : Row). r.1.handover.role) it_is ∙ rebuilds));
  behind = refl;
  length = refl;
}
