use Rattle.std.proofs.Common.{◌≡◌, [], length, All}
use Rattle.rk_cluster.proofs.dealing.empty_hands.Given as goal

abbrev pub invariant-loop : goal.invariant-loop
invariant-loop g l = (length l.hands.items ≡ l.counter) × All (λ hand. hand.items ≡ []) l.hands.items
