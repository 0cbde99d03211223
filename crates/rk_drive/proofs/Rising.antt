-- No count of faults falls from when lanes are made of replicas to when these come back.
use Rattle.std.proofs.Common.{◌≡◌, ℕ, zero, suc, List, [], ◌∷◌, ◌++◌, length, slice_get, Some}
use Rattle.std.specs.Global.{Vec}
use Rattle.std.specs.Prelude.{IfOk, Result, Ok, Err}
use Rattle.rk_lane.specs.LaneState.{LaneState}
use Rattle.rk_cluster.specs.Faults.{GoOn, LanesGoOn, counts_in, lane_counts}
use Rattle.rk_cluster.specs.State.{ClusterState}
use Rattle.rk_cluster.proofs.Faults.{go_on_then, lanes_then, rose_same}
use Rattle.rk_settle.specs.Course.{MOST_FAULTS}
use Rattle.rk_settle.specs.Faults.{RoseInRounds}
use Rattle.rk_lending.specs.Lent.{HasLent}
use Rattle.rk_lending.specs.declared.lending.Kept.{Kept}
use Rattle.rk_lending.specs.declared.lending.TheConstants.{REPLICAS}
use Rattle.rk_play.specs.Runs.{NoneFell, replica_counts}
use Rattle.rk_play.proofs.Rising.{lent_go_on, lent_in_rounds}
use Rattle.rk_shared_lanes.specs.declared.shared.Gathered.{Gathered}
use Rattle.rk_conclude.specs.Concluded.{ComeBack}
use Rattle.rk_drive.specs.Beginning.{NoneFellSince}
use Rattle.rk_drive.specs.declared.start.TheConstants.{BACKUPS}

-- ---- lanes

module _ {R : Type 0} (faults : R → ℕ) where
  -- a lane was brought on, and those before it and behind it are as they were
  brought_on : (done : List (LaneState R)) (prepared lane : LaneState R) (rest : List (LaneState R)) → LanesGoOn faults [] (lane ∷ []) (prepared ∷ [])
      → LanesGoOn faults [] (done ++ lane ∷ rest) ((done ++ prepared ∷ []) ++ rest)
  brought_on [] prepared lane rest on zero place = on 0 place
  brought_on [] prepared lane rest on (suc number) place = rose_same (lane_counts faults (slice_get rest number) place)
  brought_on (other ∷ done) prepared lane rest on zero place = rose_same (lane_counts faults (Some other) place)
  brought_on (other ∷ done) prepared lane rest on (suc number) place = brought_on done prepared lane rest on number place

  module _ (replicas : List R) where
    pub since_then : (mid now : List (LaneState R)) → NoneFellSince faults replicas mid → LanesGoOn faults [] mid now → NoneFellSince faults replicas now
    since_then mid now it on =
        record { made = it.made; count = it.count; each = it.each; counts = lanes_then faults it.made mid now it.counts on }

    pub since_prepared : (done : List (LaneState R)) (prepared lane : LaneState R) (rest : List (LaneState R)) → LanesGoOn faults [] (lane ∷ []) (prepared ∷ [])
        → NoneFellSince faults replicas (done ++ lane ∷ rest) → NoneFellSince faults replicas ((done ++ prepared ∷ []) ++ rest)
    since_prepared done prepared lane rest on it =
        since_then (done ++ lane ∷ rest) ((done ++ prepared ∷ []) ++ rest) it (brought_on done prepared lane rest on)

    pub since_gathered : {E : Type 0} (lanes : List (LaneState R)) (result : Result (Gathered R) E) → NoneFellSince faults replicas lanes
        → IfOk result (λ gathered. GoOn [] (counts_in faults lanes) (counts_in faults gathered.lanes.items))
        → IfOk result (λ gathered. NoneFellSince faults replicas gathered.lanes.items)
    since_gathered lanes (Ok gathered) it on = since_then lanes gathered.lanes.items it on
    since_gathered lanes (Err e) it on = tt

-- ---- replicas that come back

module _ {R : Type 0} (faults : R → ℕ) (replicas room its back : Vec R) (kept : Kept R) (lanes : List (LaneState R)) (many : length replicas.items ≡ REPLICAS)
    (lent : HasLent BACKUPS replicas room its kept) (since : NoneFellSince faults its.items lanes) where
  abbrev state_with : List (LaneState R) → ClusterState R
  state_with all = record { lanes = all; sessions = [] }

  pub back_none_fell : ComeBack faults (GoOn []) lanes kept.others.items back.items → NoneFell faults replicas.items back.items
  back_none_fell come there =
      lent_go_on faults (state_with since.made) (state_with come.rested) BACKUPS replicas room its back kept many lent come.back since.count since.each []
      (lanes_then faults since.made lanes come.rested since.counts come.counts)

  pub back_in_rounds : ComeBack faults (RoseInRounds MOST_FAULTS) lanes kept.others.items back.items
      → RoseInRounds MOST_FAULTS (replica_counts faults replicas.items) (replica_counts faults back.items)
  back_in_rounds come =
      let fails = come.counts in
      lent_in_rounds faults (state_with since.made) (state_with come.rested) BACKUPS replicas room its back kept many lent come.back since.count since.each
      (record {
        failed = fails.failed;
        are_lost = fails.are_lost;
        often = fails.often;
        rose = go_on_then [] fails.failed (counts_in faults since.made) (counts_in faults lanes) (counts_in faults come.rested) since.counts fails.rose;
      })
