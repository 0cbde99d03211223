use Rattle.std.proofs.Common.{◌≡◌, ◌-◌, subst₂, sym, ◌∙◌}
use Rattle.rk_message.specs.Frames.{frame_len}
use Rattle.rk_message.specs.Wire.{IsConsistent}
use Rattle.rk_message.proofs.Traffic.{IsConsistent-without_message}
use Rattle.rk_message.proofs.wire.Wire.forget.Goals as goal

pub overflow_sub-self : goal.overflow_sub-self
overflow_sub-self c =
    let length_is : c.from.result ≡ frame_len c.in-Some.frame = c.from.ensures ∙ c.length.ensures in
    rw length_is (IsConsistent-without_message _ c.in-Some.frame (record { messages = c.self.inside.messages; sent = c.self.inside.sent }) c.self.inside.bytes (sym c.in-Some.ensures.value) c.self.invariant).0

pub invariant_of-self-2 : goal.invariant_of-self-2
invariant_of-self-2 c =
    let length_is : c.from.result ≡ frame_len c.in-Some.frame = c.from.ensures ∙ c.length.ensures in
    subst₂ (λ messages length. IsConsistent (record { messages = messages; sent = c.self.inside.sent }) (c.self.inside.bytes - length))
    (sym c.remove.ensures.removed) (sym length_is)
    (IsConsistent-without_message _ c.in-Some.frame (record { messages = c.self.inside.messages; sent = c.self.inside.sent }) c.self.inside.bytes (sym c.in-Some.ensures.value) c.self.invariant).1
