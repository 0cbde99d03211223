-- What was gathered so far, and what each lane still has; there is room for one thing from each place.
use Rattle.std.proofs.Common.{◌≡◌, ◌≤◌, length, vec_capacity}
use Rattle.rk_cluster.proofs.Gathers.{IsGathering}
use Rattle.rk_lending.proofs.lending.gather.Given as goal

abbrev pub invariant-loop-place : goal.invariant-loop-place
invariant-loop-place g l = record {
  gathering : IsGathering l.fn.hands.items l.hands.items l.things.items l.place;
  few : length l.things.items ≤ l.place;
  room : vec_capacity l.things ≡ vec_capacity l.fn.things;
}
