use Rattle.rk_shared_lanes.proofs.Words.{◌≡◌, ◌+◌, ◌≤◌, ◌++◌, vec_len, vec_capacity, reverse, All, MayAct, IsIdle, sessions_of}
use Rattle.rk_shared_lanes.proofs.sharing.Passing.pass_all.Given as goal

abbrev pub invariant-loop-session : goal.invariant-loop-session
invariant-loop-session g l = record {
  idle : All IsIdle l.sessions.items;
  acts : All (MayAct g.N.Roster.masters) l.sessions.items;
  capacity : vec_capacity l.sessions ≡ vec_capacity l.fn.sessions;
  count : vec_len l.self.passes + vec_len l.sessions ≡ vec_len l.fn.sessions;
  room : vec_len l.fn.sessions ≤ vec_capacity l.self.passes;
  parts : (l.self.got.parts ≡ vec_len l.sessions) × (l.self.made.parts ≡ vec_len l.sessions);
  none : (l.self.got.amount ≡ 0) × (l.self.made.amount ≡ 0);
  passes : sessions_of l.self.passes.items ++ reverse l.sessions.items ≡ reverse l.fn.sessions.items;
}

abbrev pub decreases-loop-session : goal.decreases-loop-session
decreases-loop-session g l = goal.left-loop-session g l
