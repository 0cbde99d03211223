use Rattle.std.proofs.Common.{[], ◌∷◌}
use Rattle.std.specs.List.{range_with_len}
use Rattle.rk_cluster.proofs.Faults.{lanes_then}
use Rattle.rk_shared_lanes.proofs.Turned.{same_then}
use Rattle.rk_drive.specs.declared.start.TheConstants.{BACKUPS, MASTERS}
use Rattle.rk_drive.proofs.Beginnings.{fresh_is, of_roster, same_roster, still_unasked}
use Rattle.rk_drive.proofs.start.prepared.Goals as goal

pub add_clients-requires : goal.add_clients-requires
add_clients-requires g c =
    let fresh = fresh_is MASTERS BACKUPS c.args.lane c.requires in (
      still_unasked c.args.lane c.take.new.lane c.in_ok-take.ensures.ledger fresh.0,
      same_roster [] c.args.lane.ledger c.take.new.lane.ledger c.in_ok-take.ensures.clients fresh.1,
    )

pub returns-clause-roster : goal.returns-clause-roster
returns-clause-roster g c =
    of_roster MASTERS BACKUPS (range_with_len 1 c.args.clients) c.args.lane c.take-2.new.lane c.requires
    (same_then c.args.lane c.add_clients.new.lane c.take-2.new.lane
    (same_then c.args.lane c.take.new.lane c.add_clients.new.lane c.take.ensures.same c.add_clients.ensures.same) c.take-2.ensures.same)
    (same_roster (range_with_len 1 c.args.clients) c.add_clients.new.lane.ledger c.take-2.new.lane.ledger c.in_ok-take-2.ensures.clients c.in_ok-add_clients.ensures.clients)

pub returns-clause-unasked : goal.returns-clause-unasked
returns-clause-unasked g c = still_unasked c.add_clients.new.lane c.take-2.new.lane c.in_ok-take-2.ensures.ledger c.in_ok-add_clients.ensures.unasked

pub returns-clause-counts : goal.returns-clause-counts
returns-clause-counts g c =
    let first = lanes_then g.R.Replica.faults (c.args.lane ∷ []) (c.take.new.lane ∷ []) (c.add_clients.new.lane ∷ []) c.take.ensures.counts c.in_ok-add_clients.ensures.counts in
    lanes_then g.R.Replica.faults (c.args.lane ∷ []) (c.add_clients.new.lane ∷ []) (c.take-2.new.lane ∷ []) first c.take-2.ensures.counts
