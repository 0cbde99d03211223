use Rattle.std.proofs.Common.{◌≡◌, ◌++◌, map, take, drop}
use Rattle.rk_world.specs.Replies.{filled}
use Rattle.rk_ledger.proofs.fill.fill_all.Given as goal

abbrev pub invariant-loop-message : goal.invariant-loop-message
invariant-loop-message l = l.messages ≡ map (filled l.journal l.served) (take l.message-index l.fn.messages) ++ drop l.message-index l.fn.messages
