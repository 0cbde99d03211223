use Rattle.rk_side_log.proofs.Words.{arith, held_spelled}
use Rattle.rk_side_log.proofs.Filled.{spelled_most}
use Rattle.rk_side_log.proofs.replay.spell.Goals as goal

pub put_entry-requires-clause-room : goal.put_entry-requires-clause-room
put_entry-requires-clause-room c = omega (arith, held_spelled c.args.item, spelled_most c.args.item c.requires.lawful)
