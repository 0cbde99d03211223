use Rattle.std.proofs.Common.{◌∙◌}
use Rattle.rk_shared.proofs.Ordered.{are_eight}
use Rattle.rk_shared_lanes.proofs.Below.{each_above, none_further}
use Rattle.rk_shared_lanes.proofs.sharing.share.Goals as goal

pub lock_all-requires-clause-few : goal.lock_all-requires-clause-few
lock_all-requires-clause-few g c = (are_eight (λ lane. lane.number) c.args.lanes.items c.requires.lanes).few

pub new-requires : goal.new-requires
new-requires g c = c.lock_all.ensures.total ∙ (are_eight (λ lane. lane.number) c.args.lanes.items c.requires.lanes).powers

pub lock_all-requires-clause-counts : goal.lock_all-requires-clause-counts
lock_all-requires-clause-counts g c = each_above g.R.Replica.faults g.N.Roster.counts c.args.lanes.items c.requires.lanes c.requires.counts

pub invariant_of-shared-clause-further : goal.invariant_of-shared-clause-further
invariant_of-shared-clause-further g c = none_further g.R.Replica.faults g.N.Roster.counts c.args.lanes.items c.requires.lanes c.requires.counts
