use Rattle.std.proofs.Common.{◌-◌}
use Rattle.rk_message.proofs.Chains.{codec_shorter}
use Rattle.rk_message.proofs.ListLaws.{list_codec}
use Rattle.rk_message.proofs.EntriesLaws.{entry_codec}
use Rattle.rk_message.proofs.pulling.entries.read_ending.Goals as goal

pub overflow_sub-before : goal.overflow_sub-before
overflow_sub-before c = codec_shorter (list_codec entry_codec (c.args.count - 1)) c.args.bytes.now (c.in_ok-entries.entries, c.in_ok-entries.rest.now) c.in_ok-entries.ensures
