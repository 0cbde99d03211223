use Rattle.rk_lane.proofs.Words.{◌∙◌, sym, ap, Ledger}
use Rattle.rk_lane.proofs.Quiet.{came}
use Rattle.rk_lane.proofs.changes.add_client.Goals as goal

pub returns-clause-ok : goal.returns-clause-ok
returns-clause-ok c =
    came c.args.parts.now _ c.args.client c.quiet.result c.requires (sym c.is_one_too_many.ensures ∙ c.if-is_one_too_many.false)
    (ap (λ (ledger : Ledger). record c.args.parts.now { ledger = ledger }) c.in-Ok.ensures.ok) c.quiet.ensures
