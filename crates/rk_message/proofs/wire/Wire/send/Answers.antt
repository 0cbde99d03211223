use Rattle.std.proofs.Common.{◌≡◌, ◌+◌, ◌^◌, ◌<◌, arith, subst₂, sym, ◌∙◌}
use Rattle.rk_message.specs.Frames.{IsLawfulMessage, frame_len}
use Rattle.rk_message.specs.Wire.{IsConsistent}
use Rattle.rk_message.proofs.Traffic.{IsConsistent-with_message}
use Rattle.rk_message.proofs.wire.Wire.send.Goals as goal

pub push-requires : goal.push-requires
push-requires c = λ number message there. omega (arith, (c.self.invariant.numbers number message there).1)

pub invariant_of-self-2 : goal.invariant_of-self-2
invariant_of-self-2 c =
    let length_is : c.from-length.result ≡ frame_len c.in_ok-frame.frame = c.from-length.ensures ∙ c.length.ensures in
    let lawful : IsLawfulMessage c.in_ok-frame.frame = rw c.in_ok-frame.ensures c.requires.lawful in
    let short : frame_len c.in_ok-frame.frame < 2 ^ 32 = omega (arith, lawful.within) in
    let kept = IsConsistent-with_message c.in_ok-frame.frame (record { messages = c.self.inside.messages; sent = c.self.inside.sent }) c.self.inside.bytes lawful short c.self.invariant in
    subst₂ (λ messages length. IsConsistent (record { messages = messages; sent = c.self.inside.sent + 1 }) (c.self.inside.bytes + length))
    (sym c.in_ok-push.ensures.ok) (sym length_is) kept
