use Rattle.rk_master.proofs.Words.{◌≡◌, refl, ◌∙◌, IfOk-weaker, Master, worked_of, master_of}
use Rattle.rk_world.specs.Handovers.{ready_again}
use Rattle.rk_master.proofs.Handovers.{ready_so}
use Rattle.rk_master.proofs.orders.ready_again.Goals as goal

pub returns : goal.returns
returns c =
    let master : Master = master_of c.args.state.now in
    IfOk-weaker c.tell_ready.result _ (λ work. worked_of master work ≡ ready_again master c.args.tenure c.args.handover.role c.args.handover.term)
    (λ work is. is master refl ∙ ready_so master c.args.tenure c.args.handover.role c.args.handover.term c.in-Wanting.from c.in-Wanting.is c.if-handover-tenure.false) c.tell_ready.ensures
