use Rattle.std.proofs.Common.{arith}
use Rattle.rk_message.proofs.FrameLaws.{length-frame_bytes}
use Rattle.rk_message.proofs.frame.writing.frame_len.Goals as goal

pub returns-clause-length : goal.returns-clause-length
returns-clause-length c = omega (arith, c.fields_len.ensures, length-frame_bytes c.args.message.now)
