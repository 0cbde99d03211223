use Rattle.rk_message.proofs.Chains.{codec_shorter}
use Rattle.rk_message.proofs.EntriesLaws.{entry_codec}
use Rattle.rk_message.proofs.pulling.entries.read_last_entry.Goals as goal

pub overflow_sub-count : goal.overflow_sub-count
overflow_sub-count c = codec_shorter entry_codec c.args.bytes.now (c.in-Ok.entry, c.in-Ok.rest.now) c.in-Ok.ensures
