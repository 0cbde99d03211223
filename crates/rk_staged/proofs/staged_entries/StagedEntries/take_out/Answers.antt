use Rattle.std.proofs.Common.{refl}
use Rattle.rk_staged.proofs.staged_entries.StagedEntries.take_out.Goals as goal

pub returns-clause-kept : goal.returns-clause-kept
returns-clause-kept c = λ was. c.subtract.ensures.kept c.args.item refl refl refl was
