use Rattle.std.proofs.Common.{[], ◌∷◌}
use Rattle.rk_cluster.proofs.Faults.{lanes_same, lanes_then}
use Rattle.rk_shared_lanes.proofs.Turned.{same_lane, same_then}
use Rattle.rk_drive.proofs.Beginnings.{one_more_client, still_unasked}
use Rattle.rk_drive.proofs.start.add_clients.Goals as goal

pub loop-index-init : goal.loop-index-init
loop-index-init g c = record {
  same = same_lane c.args.lane.now;
  unasked = c.requires.0;
  clients = c.requires.1;
  counts = lanes_same g.R.Replica.faults (c.args.lane.now ∷ []);
  sound = λ sound. sound;
}

pub loop-index-preserved : goal.loop-index-preserved
loop-index-preserved g c = record {
  same = same_then c.args.lane.now c.loop-index.lane c.take.new.lane c.loop-index.invariant.same c.take.ensures.same;
  unasked = still_unasked c.loop-index.lane c.take.new.lane c.in_ok-take.ensures.ledger c.loop-index.invariant.unasked;
  clients = one_more_client c.loop-index.lane.ledger c.take.new.lane.ledger c.loop-index.index c.in_ok-take.ensures.clients c.loop-index.invariant.clients;
  counts =
      lanes_then g.R.Replica.faults (c.args.lane.now ∷ []) (c.loop-index.lane ∷ []) (c.take.new.lane ∷ []) c.loop-index.invariant.counts c.take.ensures.counts;
  sound = λ sound. c.take.ensures.sound (c.loop-index.invariant.sound sound);
}
