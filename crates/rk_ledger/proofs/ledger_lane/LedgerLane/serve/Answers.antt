use Rattle.std.proofs.Common.{refl, ap, ◌∙◌}
use Rattle.std.proofs.lemmas.Result.{on_ok_weaker}
use Rattle.rk_world.specs.Ledger.{Ledger, with_all_served}
use Rattle.rk_ledger.specs.Lane.{ledger_of}
use Rattle.rk_ledger.proofs.ledger_lane.LedgerLane.serve.Goals as goal

pub returns-clause-ok : goal.returns-clause-ok
returns-clause-ok c =
    on_ok_weaker c.serve_all.result
    (λ recorded. recorded (ledger_of c.self.inside) refl
    ∙ ap (λ (ledger : Ledger). with_all_served c.args.seen ledger c.args.served.now) c.self.view_is)
    c.serve_all.ensures.ok
