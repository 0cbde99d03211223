use Rattle.std.proofs.Common.{subst, sym}
use Rattle.rk_message.specs.Wire.{IsConsistent}
use Rattle.rk_message.proofs.Traffic.{IsConsistent-silent}
use Rattle.rk_message.proofs.wire.Wire.new.Goals as goal

pub invariant_of-result : goal.invariant_of-result
invariant_of-result c =
    subst (λ messages. IsConsistent (record { messages = messages; sent = 0 }) 0) (sym c.new.ensures) IsConsistent-silent
