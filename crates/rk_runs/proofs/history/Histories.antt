-- Each cluster of a run has one history, which is ordered with the sessions of its clients, if events keep lanes sound.
use Rattle.std.proofs.Common.{◌≡◌, ℕ, ◌<◌, ◌≤◌, List, [], ◌∷◌, refl, sym, ap, subst, ⊎_elim, arith}
use Rattle.rk_inv_base.proofs.Words.{cases_lt, get_or_past, All-nil, length-map-range_with_len, LANES, MOST_BACKUPS, new_session, Cluster}
use Rattle.rk_inv_base.proofs.Words.{Occurrence, cluster_after, cluster_run, lane_at, new_cluster, session_at, IsRun, Ledger, asked_by}
use Rattle.rk_inv_base.proofs.Words.{MOST_MASTERS, AllTell, World, new_world}
use Rattle.std.proofs.lemmas.List.FromFn.{get_or-map-range_with_len}
use Rattle.rk_world.specs.Cluster.{HasOneHistory, journals_of}
use Rattle.rk_world.specs.Ledger.{new_ledger}
use Rattle.rk_inv_wellformed.proofs.lanes.New.{new_has_room, new_is_well_formed, new_may_act}
use Rattle.rk_inv_base.proofs.views.Empty.{empty_is_sound}
use Rattle.rk_runs.specs.history.Agreement.{AreTold, IsLastKnown}
use Rattle.rk_runs.proofs.history.Clusters.{IsGood, IsGoodLane, ledgers_of}
use Rattle.rk_runs.proofs.history.Journals.{journals_are, lawful, legal}
use Rattle.rk_runs.proofs.history.Lanes.{ClientsKeep, EventsKeep}
use Rattle.rk_runs.proofs.history.Occurring.{occurs}
use Rattle.rk_runs.proofs.history.Ordered.{ordered}

module _ (Steady : World → Type 0) (masters : ℕ) where
  -- a good cluster has one history
  pub one_history : (cluster : Cluster) → IsGood Steady masters cluster → HasOneHistory cluster
  one_history cluster good = record {
    legal = legal cluster good.lanes;
    ordered = ordered (journals_of cluster) (ledgers_of cluster) (session_at cluster) (journals_are cluster) (lawful cluster good.lanes) good.agree;
  }

  -- a new cluster is good
  module _ (backups : ℕ) (few : masters ≤ MOST_MASTERS) (backed : 1 ≤ backups) (few_backups : backups ≤ MOST_BACKUPS) (steady : (lane : ℕ) → Steady (new_world lane masters backups)) where
    lane_is : (lane : ℕ) → lane < LANES → lane_at (new_cluster masters backups) lane ≡ new_world lane masters backups
    lane_is lane inside =
        get_or-map-range_with_len (λ (lane : ℕ). new_world lane masters backups) 0 LANES lane lane (new_world lane 0 0) inside (omega arith)

    ledger_is : (lane : ℕ) → ledgers_of (new_cluster masters backups) lane ≡ new_ledger
    ledger_is lane =
        ⊎_elim (λ (inside : lane < LANES). ap (λ (w : World). w.ledger) (lane_is lane inside))
        (λ (past : LANES ≤ lane).
        let long = length-map-range_with_len (λ (lane : ℕ). new_world lane masters backups) 0 LANES in
        ap (λ (w : World). w.ledger) (get_or_past (new_cluster masters backups).lanes lane (new_world lane 0 0) (omega (arith, long, past))))
        (cases_lt lane LANES)

    pub good_start : IsGood Steady masters (new_cluster masters backups)
    good_start = record {
      lanes = λ lane inside.
          let long = length-map-range_with_len (λ (lane : ℕ). new_world lane masters backups) 0 LANES in
          subst (IsGoodLane Steady masters lane) (sym (lane_is lane (omega (arith, inside, long))))
          (record {
            sound = empty_is_sound lane masters backups backed;
            formed = new_is_well_formed lane masters backups few backed few_backups;
            room = new_has_room lane masters backups;
            steady = steady lane;
            lane_is = refl;
            base_is = refl;
            masters_are = refl;
          });
      agree = λ client. record {
        own = refl;
        numbered = tt;
        own_calls = All-nil _;
        last = refl;
        outstanding = tt;
        rising = tt;
        seen = All-nil _;
        recorded = All-nil _;
        told = λ lane. subst (λ (l : Ledger). AreTold [] client lane l.journal) (sym (ledger_is lane)) (All-nil _);
        asked = λ lane. subst (λ (l : Ledger). IsLastKnown l.journal (new_session client) (asked_by l client)) (sym (ledger_is lane)) tt;
      };
      sessions = λ client. record { acts = new_may_act masters client; lawful = tt; sent_in = tt };
    }

  -- so is each cluster of a run
  module _ (events_keep : EventsKeep Steady) (clients_keep : ClientsKeep Steady) (tells : (w : World) → Steady w → AllTell w) where
    pub good_run : (cluster : Cluster) (list : List Occurrence) → IsGood Steady masters cluster → IsRun cluster list → IsGood Steady masters (cluster_run cluster list)
    good_run cluster [] good run = good
    good_run cluster (occurrence ∷ later) good run =
        good_run (cluster_after cluster occurrence) later
        (occurs Steady masters events_keep clients_keep cluster good tells occurrence run.0 run.1 run.2) run.3
