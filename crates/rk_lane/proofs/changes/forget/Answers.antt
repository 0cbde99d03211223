use Rattle.rk_lane.proofs.Words.{ap, Traffic}
use Rattle.rk_lane.proofs.Quiet.{forgotten}
use Rattle.rk_lane.proofs.changes.forget.Goals as goal

pub returns-clause-ok : goal.returns-clause-ok
returns-clause-ok c =
    forgotten c.args.parts.now _ c.args.number c.quiet.result c.requires c.in-Ok.ensures.ok
    (ap (λ (wire : Traffic). record c.args.parts.now { wire = wire }) c.in-Ok.ensures.forgotten) c.quiet.ensures
