use Rattle.rk_drive.proofs.Crashing.{may_crash}
use Rattle.rk_drive.proofs.conducting.crash.Goals as goal

pub step-requires-clause-may : goal.step-requires-clause-may
step-requires-clause-may g c = may_crash c.args.kept.now c.args.master (c.has_master.ensures c.if-not-has_master.false) c.lane.result.now c.lives_another.result c.lane.ensures c.lives_another.ensures c.if-not-lives_another.false
