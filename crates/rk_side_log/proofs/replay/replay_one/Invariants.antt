use Rattle.rk_side_log.specs.Spelled.{item_read}
use Rattle.rk_side_log.proofs.replay.replay_one.Given as goal

abbrev pub ghost-put : goal.ghost-put
ghost-put g a = item_read a.bytes.now
