-- A cluster that a run of a new one has come to, and occurrences that go on with that run.
use Rattle.std.proofs.Common.{◌≡◌, ℕ, ◌<◌, ◌≤◌, List, [], ◌∷◌, ◌++◌, length, refl, sym, ap, subst, ◌∙◌, arith}
use Rattle.rk_scripts.proofs.Words.{length-map-range_with_len, LANES, MOST_BACKUPS, Cluster, Occurrence, cluster_after, cluster_run}
use Rattle.rk_scripts.proofs.Words.{lane_at, new_cluster, MOST_MASTERS, run_on, runs_join, new_world, IsRun, IsGood, IsGoodLane, Lasts}
use Rattle.rk_scripts.proofs.Words.{lanes_stay}
use Rattle.rk_world.specs.Cluster.{ClusterMay, KeepsCalm}
use Rattle.rk_world.specs.ClusterRuns.{ReplicasTell}
use Rattle.rk_runs.proofs.history.Runs.{good_after}

-- a run of a new cluster has come to this one
pub record IsReached (masters backups : ℕ) (cluster : Cluster) : Type 0 where
  pub few_masters : masters ≤ MOST_MASTERS
  pub backed : 1 ≤ backups
  pub few_backups : backups ≤ MOST_BACKUPS
  pub before : List Occurrence
  pub run : IsRun (new_cluster masters backups) before
  pub is : cluster ≡ cluster_run (new_cluster masters backups) before

module _ (masters backups : ℕ) where
  -- a new cluster is reached by a run in which nothing occurs
  pub new_reached : masters ≤ MOST_MASTERS → 1 ≤ backups → backups ≤ MOST_BACKUPS → IsReached masters backups (new_cluster masters backups)
  new_reached few backed few_backups =
      record { few_masters = few; backed = backed; few_backups = few_backups; before = []; run = tt; is = refl }

  module _ (cluster : Cluster) (reached : IsReached masters backups cluster) where
    -- so is a cluster that a run of this one comes to
    pub reached_after : (list : List Occurrence) → IsRun cluster list → IsReached masters backups (cluster_run cluster list)
    reached_after list run =
        let start : Cluster = new_cluster masters backups in
        record {
          few_masters = reached.few_masters;
          backed = reached.backed;
          few_backups = reached.few_backups;
          before = reached.before ++ list;
          run = run_on start reached.before list reached.run (subst (λ (from : Cluster). IsRun from list) reached.is run);
          is = ap (λ (from : Cluster). cluster_run from list) reached.is ∙ sym (runs_join start reached.before list);
        }

    -- it is as a cluster between two occurrences is
    pub reached_good : IsGood Lasts masters cluster
    reached_good = subst (IsGood Lasts masters) (sym reached.is)
        (good_after masters backups reached.few_masters reached.backed reached.few_backups reached.before reached.run)

    -- it has eight lanes
    pub reached_eight : length cluster.lanes ≡ LANES
    reached_eight =
        ap (λ (it : Cluster). length it.lanes) reached.is ∙ lanes_stay (new_cluster masters backups) reached.before
        ∙ length-map-range_with_len (λ (lane : ℕ). new_world lane masters backups) 0 LANES

    -- each of which is there
    pub lane_there : (lane : ℕ) → lane < LANES → lane < length cluster.lanes
    lane_there lane inside = let eight = reached_eight in omega (arith, inside, eight)

    -- and good
    pub lane_good : (lane : ℕ) → lane < LANES → IsGoodLane Lasts masters lane (lane_at cluster lane)
    lane_good lane inside = reached_good.lanes lane (lane_there lane inside)

  -- ---- occurrences that go on with a run

  -- occurrences go on with a run that has come to a cluster
  abbrev pub GoesOn : Cluster → List Occurrence → Type 0
  GoesOn cluster list = IsReached masters backups cluster → IsRun cluster list

  -- one may occur in a cluster: it may come, and replicas answer what they store
  pub record MayBe (cluster : Cluster) (occurrence : Occurrence) : Type 0 where
    pub may : ClusterMay cluster occurrence
    pub calm : KeepsCalm cluster occurrence
    pub told : ReplicasTell cluster occurrence

  pub none_on : (cluster : Cluster) → GoesOn cluster []
  none_on cluster reached = tt

  -- an occurrence that may come, and those behind it
  pub one_on : (cluster : Cluster) (occurrence : Occurrence) (later : List Occurrence) → (IsReached masters backups cluster → MayBe cluster occurrence)
      → GoesOn (cluster_after cluster occurrence) later → GoesOn cluster (occurrence ∷ later)
  one_on cluster occurrence later may rest reached =
      let here : MayBe cluster occurrence = may reached in
      let first : IsRun cluster (occurrence ∷ []) = (here.may, here.calm, here.told, tt) in
      (here.may, here.calm, here.told, rest (reached_after cluster reached (occurrence ∷ []) first))

  -- some, and those behind them
  pub all_on : (cluster : Cluster) (before after : List Occurrence) → GoesOn cluster before → GoesOn (cluster_run cluster before) after → GoesOn cluster (before ++ after)
  all_on cluster before after first second reached =
      let run : IsRun cluster before = first reached in
      run_on cluster before after run (second (reached_after cluster reached before run))
