use Rattle.std.proofs.Common.{◌≡◌, ◌+◌, ◌≤◌, vec_len, vec_capacity, length}
use Rattle.rk_shared_lanes.proofs.Taking.{AreTaken}
use Rattle.rk_shared_lanes.proofs.gathering.Taken.take_all.Given as goal

abbrev pub invariant-loop-lock : goal.invariant-loop-lock
invariant-loop-lock g l = record {
  count : length l.self.lanes.items + vec_len l.locks ≡ vec_len l.fn.locks;
  room : vec_len l.fn.locks ≤ vec_capacity l.self.lanes;
  taken : AreTaken g.R.Replica.segments g.R.Replica.faults g.N.Roster.tells g.N.Roster.masters g.N.Roster.backups g.N.Roster.clients g.N.Roster.counts l.self.lanes.items
      (l.self.accepted.parts, l.self.accepted.amount) (l.self.asked.parts, l.self.asked.amount) (l.self.number.parts, l.self.number.amount);
}

abbrev pub decreases-loop-lock : goal.decreases-loop-lock
decreases-loop-lock g l = goal.left-loop-lock g l
