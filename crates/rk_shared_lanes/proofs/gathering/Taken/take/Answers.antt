use Rattle.rk_shared_lanes.proofs.Words.{subst, LaneState, HasCountedCalls, IsNoneBelow, IsOfRoster}
use Rattle.rk_shared_lanes.proofs.gathering.Taken.take.Goals as goal

pub returns-clause-counted : goal.returns-clause-counted
returns-clause-counted g c =
    λ told. subst (λ (lane : LaneState g.row.R.Denot). HasCountedCalls lane.ledger) c.kept.view_is (c.kept.invariant.1.counted told)

pub returns-clause-counts : goal.returns-clause-counts
returns-clause-counts g c = subst (IsNoneBelow g.R.Replica.faults g.N.Roster.counts) c.kept.view_is c.kept.invariant.1.none_below

pub returns-clause-roster : goal.returns-clause-roster
returns-clause-roster g c =
    let kept = c.kept.invariant.1 in
    subst (IsOfRoster g.N.Roster.masters g.N.Roster.backups g.N.Roster.clients) c.kept.view_is
    (record { masters_are = kept.masters_are; backups_are = kept.backups_are; clients_are = kept.clients_are })
