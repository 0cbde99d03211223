use Rattle.rk_master.proofs.Words.{subst, sym, ◌∙◌, ap, Call, choice_of, IsFit, master_of}
use Rattle.rk_world.specs.Requests.{call_of}
use Rattle.rk_master.proofs.Fitting.{choice_fits}
use Rattle.rk_master.proofs.requests.take_request.Goals as goal

pub carry_out-requires-clause-fit : goal.carry_out-requires-clause-fit
carry_out-requires-clause-fit c =
    let master = master_of c.args.state.now in
    subst (IsFit master.tablets) (sym (c.in_ok-choice.ensures ∙ ap (λ (call : Call). choice_of master call) c.call_of-call.ensures))
    (choice_fits master (call_of c.args.client c.args.request))
