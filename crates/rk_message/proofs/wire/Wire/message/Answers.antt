use Rattle.rk_message.proofs.wire.Wire.message.Goals as goal

pub returns-clause-lawful : goal.returns-clause-lawful
returns-clause-lawful c = c.frame.ensures.lawful
