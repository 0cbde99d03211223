use Rattle.std.proofs.Common.{◌≡◌, vec_len}
use Rattle.std.specs.List.{All}
use Rattle.rk_entry.specs.Lawful.{IsLawfulHeld}
use Rattle.rk_tests_nodes.proofs.side_log.items.Given as goal

abbrev pub invariant-loop-key : goal.invariant-loop-key
invariant-loop-key g l = All IsLawfulHeld l.items.items × (vec_len l.items ≡ l.key-index)
