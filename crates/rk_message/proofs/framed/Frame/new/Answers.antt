use Rattle.std.proofs.Common.{sym, ◌∙◌}
use Rattle.rk_message.proofs.Framing.{framed, spelled_again}
use Rattle.rk_message.proofs.framed.Frame.new.Goals as goal

pub invariant_of-result : goal.invariant_of-result
invariant_of-result c = rw (c.kind.ensures, c.in_ok-encode_frame.ensures.ok, c.new-bytes.ensures.items) (framed c.args.message.now c.requires)

pub returns : goal.returns
returns c = rw (c.in_ok-encode_frame.ensures.ok, c.new-bytes.ensures.items) (spelled_again c.args.message.now c.requires)
