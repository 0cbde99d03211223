use Rattle.rk_shared_lanes.proofs.Words.{◌≡◌, ◌+◌, ◌≤◌, ◌++◌, vec_len, vec_capacity, length, reverse, sessions_of}
use Rattle.rk_shared_lanes.proofs.Taking.{AreReturned}
use Rattle.rk_shared_lanes.proofs.gathering.Returned.take_all.Given as goal

abbrev pub invariant-loop-pass : goal.invariant-loop-pass
invariant-loop-pass g l = record {
  count : length l.self.sessions.items + vec_len l.passes ≡ vec_len l.fn.passes;
  room : vec_len l.fn.passes ≤ vec_capacity l.self.sessions;
  sessions : l.self.sessions.items ++ reverse (sessions_of l.passes.items) ≡ reverse (sessions_of l.fn.passes.items);
  returned : AreReturned g.N.Roster.tells g.N.Roster.masters g.N.Roster.makes l.self.sessions.items (l.self.got.parts, l.self.got.amount) (l.self.made.parts, l.self.made.amount);
}

abbrev pub decreases-loop-pass : goal.decreases-loop-pass
decreases-loop-pass g l = goal.left-loop-pass g l
