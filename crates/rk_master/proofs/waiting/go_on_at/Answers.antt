use Rattle.rk_master.proofs.Words.{◌≡◌, ℕ, Option, None, sym, refl, ap, ◌∙◌, Master, tablet_of, Row, master_of}
use Rattle.rk_transfer.specs.declared.role.Role.TheVariants as roles
use Rattle.rk_world.specs.Waiting.{going_on_in}
use Rattle.rk_master.proofs.GoingOn.{waits_not, not_there}
use Rattle.rk_master.proofs.Places.{row_there}
use Rattle.rk_master.proofs.waiting.go_on_at.Goals as goal

pub returns-in-Closing-clause-ok : goal.returns-in-Closing-clause-ok
returns-in-Closing-clause-ok c = λ row at.
    let master : Master = master_of c.args.state.now in
    let it_is : c.index.result.now ≡ row = c.index.ensures ∙ row_there c.args.state.now.tablets.items c.args.at c.index.result.now row c.requires.within at in
    c.freeze_at.ensures.ok row at
    ∙ ap (going_on_in master row.0 (tablet_of row.1)) (sym c.in-Closing.is ∙ ap (λ (r : Row). r.1.handover.role) it_is)

pub returns-in_ok-close_at-in-Joining-clause-ok : goal.returns-in_ok-close_at-in-Joining-clause-ok
returns-in_ok-close_at-in-Joining-clause-ok c = λ row at.
    let master : Master = master_of c.args.state.now in
    let it_is : c.index.result.now ≡ row = c.index.ensures ∙ row_there c.args.state.now.tablets.items c.args.at c.index.result.now row c.requires.within at in
    let role : roles.Joining None ≡ row.1.handover.role =
    ap (λ (o : Option ℕ). roles.Joining o) (sym (not_there c.in-Joining.entry (sym c.is_some.ensures ∙ c.if-is_some.false))) ∙ sym c.in-Joining.is ∙ ap (λ (r : Row). r.1.handover.role) it_is in
    c.in_ok-close_at-in-Joining.ensures.ok row at ∙ ap (going_on_in master row.0 (tablet_of row.1)) role

pub returns-in_default : goal.returns-in_default
returns-in_default c = record {
  state = c.requires.state;
  ok = λ row at.
      let it_is : c.index.result.now ≡ row = c.index.ensures ∙ row_there c.args.state.now.tablets.items c.args.at c.index.result.now row c.requires.within at in
      waits_not (master_of c.args.state.now) row.0 (tablet_of row.1) row.1.handover.role
      (λ closing. c.in_default.not-Closing (ap (λ (r : Row). r.1.handover.role) it_is ∙ closing))
      (λ entry joining. c.in_default.not-Joining entry (ap (λ (r : Row). r.1.handover.role) it_is ∙ joining));
  behind = refl;
  length = refl;
}
