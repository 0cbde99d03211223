use Rattle.std.proofs.Common.{length, ap, sym, ◌∙◌}
use Rattle.rk_message.specs.Frames.{frame_len}
use Rattle.rk_message.proofs.FrameLaws.{length-frame_bytes}
use Rattle.rk_message.proofs.framed.Frame.length.Goals as goal

pub returns : goal.returns
returns c = c.len.ensures ∙ c.self.inside.bytes.ok.0 ∙ ap length c.self.invariant.bytes_are ∙ length-frame_bytes _ ∙ ap frame_len c.self.view_is
