use Rattle.std.proofs.Common.{[], List, sym, ap, subst, ◌∙◌, arith}
use Rattle.std.specs.List.{All, range_with_len}
use Rattle.rk_types.specs.declared.hashing.TheConstants.{LANES}
use Rattle.rk_lane.specs.LaneState.{LaneState}
use Rattle.rk_cluster.specs.Faults.{LanesGoOn}
use Rattle.rk_cluster.proofs.Faults.{lanes_same}
use Rattle.rk_shared_lanes.specs.Together.{AllSoundOrSpent, numbers_of}
use Rattle.rk_drive.specs.Beginning.{IsFresh}
use Rattle.rk_drive.specs.declared.start.TheConstants.{BACKUPS, MASTERS}
use Rattle.rk_drive.proofs.Fresh.{all_fresh, all_new, all_sound, numbers_new}
use Rattle.rk_drive.proofs.start.fresh_lanes.Goals as goal

pub returns-clause-numbers : goal.returns-clause-numbers
returns-clause-numbers g c =
    ap numbers_of c.into_lanes.ensures
    ∙ numbers_new MASTERS BACKUPS 0 c.in_ok-cluster.cluster.lanes (all_new MASTERS BACKUPS c.in_ok-cluster.cluster.lanes c.in_ok-cluster.ensures.each)
    ∙ ap (range_with_len 0) c.in_ok-cluster.ensures.lanes

pub returns-clause-fresh : goal.returns-clause-fresh
returns-clause-fresh g c =
    subst (All (IsFresh MASTERS BACKUPS)) (sym c.into_lanes.ensures)
    (all_fresh MASTERS BACKUPS 0 c.in_ok-cluster.cluster.lanes (all_new MASTERS BACKUPS c.in_ok-cluster.cluster.lanes c.in_ok-cluster.ensures.each))

pub returns-clause-sound : goal.returns-clause-sound
returns-clause-sound g c = λ empty.
    subst (AllSoundOrSpent g.R.Replica.segments) (sym c.into_lanes.ensures)
    (all_sound MASTERS BACKUPS g.R.Replica.segments (omega arith) (omega arith) (omega arith) 0 LANES c.in_ok-cluster.cluster.lanes
    (all_fresh MASTERS BACKUPS 0 c.in_ok-cluster.cluster.lanes (all_new MASTERS BACKUPS c.in_ok-cluster.cluster.lanes c.in_ok-cluster.ensures.each))
    (c.in_ok-cluster.ensures.new empty).lanes)

pub returns-clause-counts : goal.returns-clause-counts
returns-clause-counts g c =
    let made = c.in_ok-cluster.cluster.lanes in
    record {
      made = made;
      count = c.in_ok-cluster.ensures.lanes;
      each = c.in_ok-cluster.ensures.replicas;
      counts =
          subst (λ (lanes : List (LaneState g.row.R.Denot)). LanesGoOn g.R.Replica.faults [] made lanes) (sym c.into_lanes.ensures) (lanes_same g.R.Replica.faults made);
    }
