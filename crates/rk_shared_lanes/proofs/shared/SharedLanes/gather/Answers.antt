use Rattle.std.proofs.lemmas.List.Sorted.{All-permutation}
use Rattle.rk_shared_lanes.proofs.Words.{LaneState, HasCountedCalls, IsNoneBelow, IsSoundOrSpent, IsOfRoster}
use Rattle.rk_shared_lanes.proofs.Below.{all_above}
use Rattle.rk_shared_lanes.proofs.shared.SharedLanes.gather.Goals as goal

pub returns-clause-counted : goal.returns-clause-counted
returns-clause-counted g c =
    λ told.
    All-permutation (λ (lane : LaneState g.row.R.Denot). HasCountedCalls lane.ledger) _ _ c.in_order.ensures.permutation (c.take_all.ensures.counted told)

pub returns-clause-roster : goal.returns-clause-roster
returns-clause-roster g c =
    All-permutation (IsOfRoster g.N.Roster.masters g.N.Roster.backups g.N.Roster.clients) _ _ c.in_order.ensures.permutation c.take_all.ensures.roster

pub returns-clause-counts : goal.returns-clause-counts
returns-clause-counts g c =
    all_above g.R.Replica.faults g.N.Roster.counts c.in_order.result.items c.in_order.ensures.numbers c.args.self.further
    (All-permutation (IsNoneBelow g.R.Replica.faults g.N.Roster.counts) _ _ c.in_order.ensures.permutation c.take_all.ensures.counts)

pub returns-clause-sound : goal.returns-clause-sound
returns-clause-sound g c =
    λ told. All-permutation (IsSoundOrSpent g.R.Replica.segments) _ _ c.in_order.ensures.permutation (c.take_all.ensures.sound told)
