use Rattle.std.proofs.Common.{subst}
use Rattle.rk_message.specs.Wire.{HasLawfulMessages}
use Rattle.rk_message.proofs.wire.Wire.frame.Goals as goal

pub returns-clause-lawful : goal.returns-clause-lawful
returns-clause-lawful c = subst HasLawfulMessages c.self.view_is c.self.invariant.lawful
