use Rattle.std.proofs.Common.{sym, ap, ◌∙◌}
use Rattle.rk_ledger.proofs.Stamps.{last_is, stamp_of}
use Rattle.rk_ledger.proofs.journal.last_stamp.Goals as goal

pub returns-in-Some : goal.returns-in-Some
returns-in-Some c = ap stamp_of c.in-Some.ensures.value ∙ sym (last_is c.args.records.now)
