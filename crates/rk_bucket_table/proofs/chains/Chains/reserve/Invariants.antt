use Rattle.std.proofs.Common.{◌≡◌, ◌≤◌}
use Rattle.rk_bucket_table.proofs.chains.Chains.reserve.Given as goal

abbrev pub invariant-doublings : goal.invariant-doublings
invariant-doublings l = record {
  same : l.self.items ≡ l.fn.self.items;
  no_less : l.fn.self.spare ≤ l.self.spare;
  room : l.fn.n ≤ l.self.spare;
}
