use Rattle.std.proofs.Common.{arith}
use Rattle.std.proofs.lemmas.List.Elements.{All-same, All-push}
use Rattle.rk_entry.specs.Lawful.{IsLawfulHeld}
use Rattle.rk_tests_nodes.proofs.side_log.items.Goals as goal

pub loop-key-preserved : goal.loop-key-preserved
loop-key-preserved g c = (
  All-same IsLawfulHeld _ _ c.in_ok-push.ensures.items (All-push IsLawfulHeld c.loop-key.items.items c.in_ok-item.item c.loop-key.invariant.0 c.in_ok-item.ensures),
  omega (arith, c.in_ok-push.ensures.len, c.loop-key.invariant.1),
)
