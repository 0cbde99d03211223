use Rattle.std.proofs.Common.{sym}
use Rattle.rk_entry.proofs.Loops.{among_above}
use Rattle.rk_entry.proofs.lists.is_repeat.Goals as goal

pub returns-then-segment-greatest : goal.returns-then-segment-greatest
returns-then-segment-greatest c = sym (among_above c.args.greatest c.args.segment c.args.before.now c.requires c.if-segment-greatest.true)
