use Rattle.std.proofs.Common.{[], sym, ◌∙◌, append-nil}
use Rattle.rk_message.proofs.FrameLaws.{one_framed}
use Rattle.rk_message.proofs.framed.Frame.message.Goals as goal

pub returns-in-Ok : goal.returns-in-Ok
returns-in-Ok c =
    let found = c.in-Ok.ensures.found in
    (one_framed c.in-Ok.message _ _ [] found.lawful c.self.invariant.lawful (sym found.bytes_are ∙ c.as_slice.ensures.value ∙ c.self.invariant.bytes_are ∙ sym (append-nil _))).0 ∙ c.self.view_is
