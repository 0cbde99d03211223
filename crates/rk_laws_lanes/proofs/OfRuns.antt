-- Good lanes are those of a cluster's runs, by themselves: so the lanes of a run of a new cluster are good.
use Rattle.std.proofs.Common.{ℕ, ◌<◌, ◌≤◌, List, arith}
use Rattle.rk_inv_base.proofs.Words.{length-map-range_with_len, LANES, MOST_BACKUPS, Occurrence, cluster_run, lane_at, new_cluster, IsRun}
use Rattle.rk_inv_base.proofs.Words.{MOST_MASTERS, World, new_world}
use Rattle.rk_runs.proofs.history.Runs.{Lasts, good_after}
use Rattle.rk_runs.proofs.history.Staying.{lanes_stay}
use Rattle.rk_laws_lanes.specs.GoodLane.{IsGoodLane}
use Rattle.rk_runs.proofs.history.Clusters as clusters

pub in_runs : {masters number : ℕ} {w : World} → IsGoodLane masters number w → clusters.IsGoodLane Lasts masters number w
in_runs good = grind arith

pub by_itself : {masters number : ℕ} {w : World} → clusters.IsGoodLane Lasts masters number w → IsGoodLane masters number w
by_itself good = grind arith

pub good_in_run : (masters backups lane : ℕ) (list : List Occurrence) → masters ≤ MOST_MASTERS → 1 ≤ backups → backups ≤ MOST_BACKUPS
    → IsRun (new_cluster masters backups) list → lane < LANES → IsGoodLane masters lane (lane_at (cluster_run (new_cluster masters backups) list) lane)
good_in_run masters backups lane list few backed few_backups run inside =
    let many = lanes_stay (new_cluster masters backups) list in
    let first = length-map-range_with_len (λ (number : ℕ). new_world number masters backups) 0 LANES in
    by_itself ((good_after masters backups few backed few_backups list run).lanes lane (omega (arith, inside, many, first)))
