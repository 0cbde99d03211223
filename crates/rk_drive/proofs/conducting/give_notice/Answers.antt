use Rattle.rk_drive.proofs.Crashing.{may_notice}
use Rattle.rk_drive.proofs.conducting.give_notice.Goals as goal

pub step-requires-clause-may : goal.step-requires-clause-may
step-requires-clause-may g c = may_notice c.args.kept.now c.args.master (c.has_master.ensures c.if-not-has_master.false)
