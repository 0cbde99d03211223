use Rattle.rk_shared_lanes.proofs.Words.{◌^◌, ◌<◌, Some, ap, arith, common_steps, sum_by_push, LANES, LaneState, IsNoneBelow}
use Rattle.rk_shared_lanes.proofs.Words.{IsSoundOrSpent, IsOfRoster, IsUnasked, powers_of}
use Rattle.std.proofs.lemmas.List.Elements.{All-pop}
use Rattle.rk_shared_lanes.proofs.sharing.Locking.lock_all.Goals as goal

pub lock-requires-clause-unasked : goal.lock-requires-clause-unasked
lock-requires-clause-unasked g c = (All-pop IsUnasked _ _ (Some c.in-Some.lane) c.in-Some.ensures.items c.loop-lane.invariant.unasked).1

pub lock-requires-clause-few : goal.lock-requires-clause-few
lock-requires-clause-few g c =
    (All-pop (λ (lane : LaneState g.row.R.Denot). lane.number < LANES) _ _ (Some c.in-Some.lane) c.in-Some.ensures.items c.loop-lane.invariant.few).1

pub lock-requires-clause-roster : goal.lock-requires-clause-roster
lock-requires-clause-roster g c =
    (All-pop (IsOfRoster g.N.Roster.masters g.N.Roster.backups g.N.Roster.clients) _ _ (Some c.in-Some.lane) c.in-Some.ensures.items c.loop-lane.invariant.roster).1

pub lock-requires-clause-counts : goal.lock-requires-clause-counts
lock-requires-clause-counts g c =
    (All-pop (IsNoneBelow g.R.Replica.faults g.N.Roster.counts) _ _ (Some c.in-Some.lane) c.in-Some.ensures.items c.loop-lane.invariant.counts).1

pub lock-requires-clause-sound : goal.lock-requires-clause-sound
lock-requires-clause-sound g c =
    λ told. (All-pop (IsSoundOrSpent g.R.Replica.segments) _ _ (Some c.in-Some.lane) c.in-Some.ensures.items (c.loop-lane.invariant.sound told)).1

pub loop-lane-preserved : goal.loop-lane-preserved
loop-lane-preserved g c = record {
  unasked = (All-pop IsUnasked _ _ _ c.pop.ensures.items c.loop-lane.invariant.unasked).0;
  few = (All-pop (λ (lane : LaneState g.row.R.Denot). lane.number < LANES) _ _ _ c.pop.ensures.items c.loop-lane.invariant.few).0;
  roster = (All-pop (IsOfRoster g.N.Roster.masters g.N.Roster.backups g.N.Roster.clients) _ _ _ c.pop.ensures.items c.loop-lane.invariant.roster).0;
  counts = (All-pop (IsNoneBelow g.R.Replica.faults g.N.Roster.counts) _ _ _ c.pop.ensures.items c.loop-lane.invariant.counts).0;
  sound = λ told. (All-pop (IsSoundOrSpent g.R.Replica.segments) _ _ _ c.pop.ensures.items (c.loop-lane.invariant.sound told)).0;
  capacity = grind (arith, common_steps);
  count = grind (arith, common_steps);
  room = grind (arith, common_steps);
  parts = grind (arith, common_steps);
  none = grind (arith, common_steps);
  total =
      let s = sum_by_push (λ (lane : LaneState g.row.R.Denot). 9 ^ lane.number) c.pop.new.self.items c.in-Some.lane in
      let is = ap powers_of c.in-Some.ensures.items in
      omega (arith, s, is, c.lock.ensures.numbers, c.loop-lane.invariant.total);
}
