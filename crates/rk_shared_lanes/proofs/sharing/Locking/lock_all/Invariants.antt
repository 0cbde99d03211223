use Rattle.rk_shared_lanes.proofs.Words.{◌≡◌, ◌+◌, ◌<◌, ◌≤◌, vec_len, vec_capacity, All, LANES, IsNoneBelow, AllSoundOrSpent, IsOfRoster}
use Rattle.rk_shared_lanes.proofs.Words.{IsUnasked, powers_of}
use Rattle.rk_shared_lanes.proofs.sharing.Locking.lock_all.Given as goal

abbrev pub invariant-loop-lane : goal.invariant-loop-lane
invariant-loop-lane g l = record {
  unasked : All IsUnasked l.lanes.items;
  few : All (λ lane. lane.number < LANES) l.lanes.items;
  roster : All (IsOfRoster g.N.Roster.masters g.N.Roster.backups g.N.Roster.clients) l.lanes.items;
  counts : All (IsNoneBelow g.R.Replica.faults g.N.Roster.counts) l.lanes.items;
  sound : g.N.Roster.tells → AllSoundOrSpent g.R.Replica.segments l.lanes.items;
  capacity : vec_capacity l.lanes ≡ vec_capacity l.fn.lanes;
  count : vec_len l.self.locks + vec_len l.lanes ≡ vec_len l.fn.lanes;
  room : vec_len l.fn.lanes ≤ vec_capacity l.self.locks;
  parts : (l.self.accepted.parts ≡ vec_len l.lanes) × (l.self.asked.parts ≡ vec_len l.lanes) × (l.self.number.parts ≡ vec_len l.lanes);
  none : (l.self.accepted.amount ≡ 0) × (l.self.asked.amount ≡ 0) × (l.self.number.amount ≡ 0);
  total : l.self.numbers.total + powers_of l.lanes.items ≡ powers_of l.fn.lanes.items;
}

abbrev pub decreases-loop-lane : goal.decreases-loop-lane
decreases-loop-lane g l = goal.left-loop-lane g l
