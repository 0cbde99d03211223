use Rattle.std.proofs.Common.{◌≡◌, ◌+◌, ◌-◌, ◌^◌, ◌≤◌, drop, min}
use Rattle.rk_master.proofs.Unsealed.{unsealed_of}
use Rattle.rk_master.proofs.sums.unsealed_bytes.Given as goal

-- with those that are left they come to all
abbrev pub invariant-loop-entry : goal.invariant-loop-entry
invariant-loop-entry l = record {
  within : l.bytes ≤ 2 ^ 64 - 1;
  total : min (l.bytes + unsealed_of (drop l.entry-index l.tablets)) (2 ^ 64 - 1) ≡ min (unsealed_of l.tablets) (2 ^ 64 - 1);
}
