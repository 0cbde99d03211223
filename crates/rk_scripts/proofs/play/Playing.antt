-- The cluster at the end of a script played is what occurred made of a new one, with as many masters and backups as there may be; and what
-- occurred is a run.
use Rattle.std.proofs.Common.{arith, ℕ, List, [], ◌∷◌, ◌≡◌, ◌≤◌, Option, None, Some, refl, sym, ap, subst, ◌∙◌, All}
use Rattle.rk_scripts.proofs.Words.{Called, Cluster, Happens, Occurrence, cluster_after, lane_at, IsRun, Event, IsGoodLane, Lasts, All-head}
use Rattle.rk_scripts.proofs.Words.{All-tail, MOST_BACKUPS, cluster_run, new_cluster, MOST_MASTERS, Fate, runs_join, Numbered, Effect}
use Rattle.rk_scripts.proofs.Words.{Refuses, Stop, effect_within, Played, Setting, behind, cluster_by, continued, first_fates, how_many}
use Rattle.rk_scripts.proofs.Words.{other_fates, played_in, played_part, refused_at, stopped_at, IsHistorical, NoMemory, ending}
use Rattle.rk_inv_lanes.proofs.Headlines.{sound_requests}
use Rattle.rk_inv_lanes.proofs.late.Sources.{each_moved, each_not_yet}
use Rattle.rk_runs.proofs.history.Finishing.{finished_by}
use Rattle.rk_scripts.specs.play.Steps.{AtEachCluster, AtEachStep, FinishesMoves, HasSoundLanes, OfEvents, RefusesJustly}
use Rattle.rk_scripts.proofs.play.Reaching.{IsReached, lane_good, reached_after, reached_good, GoesOn, all_on, new_reached, none_on}
use Rattle.rk_script.proofs.Widths.{HasWidthsAt}
use Rattle.rk_script.specs.Lawful.{IsLawful}
use Rattle.rk_play.specs.Settings.{IsSetting}
use Rattle.rk_scripts.proofs.play.Going.{within_on}
use Rattle.rk_scripts.proofs.play.Led.{one_map}
use Rattle.rk_scripts.proofs.play.Made.{within_from}
use Rattle.rk_scripts.proofs.play.Openings.{opening}

-- What is so at each step of a run of a new cluster.

module _ (masters backups : ℕ) where
  next_reached : (cluster : Cluster) (occurrence : Occurrence) (later : List Occurrence) → IsReached masters backups cluster → IsRun cluster (occurrence ∷ later)
      → IsReached masters backups (cluster_after cluster occurrence)
  next_reached cluster occurrence later reached run = reached_after masters backups cluster reached (occurrence ∷ []) (run.0, run.1, run.2, tt)

  -- each lane is sound at each cluster that is passed
  pub all_sound : (cluster : Cluster) (list : List Occurrence) → IsReached masters backups cluster → IsRun cluster list → AtEachCluster HasSoundLanes cluster list
  all_sound cluster [] reached run = λ lane inside. (lane_good masters backups cluster reached lane inside).sound
  all_sound cluster (occurrence ∷ later) reached run =
      grind (arith, lane_good, next_reached, (all_sound (cluster_after cluster occurrence) later (next_reached cluster occurrence later reached run) run.3))

  -- what is so of each event that comes to a good lane is so at each step
  module _ (Holds : (cluster : Cluster) (occurrence : Occurrence) → Type 0)
      (here : (cluster : Cluster) (occurrence : Occurrence) (later : List Occurrence) → IsReached masters backups cluster → IsRun cluster (occurrence ∷ later) → Holds cluster occurrence) where
    each_step : (cluster : Cluster) (list : List Occurrence) → IsReached masters backups cluster → IsRun cluster list → AtEachStep Holds cluster list
    each_step cluster [] reached run = tt
    each_step cluster (occurrence ∷ later) reached run =
        (here cluster occurrence later reached run, each_step (cluster_after cluster occurrence) later (next_reached cluster occurrence later reached run) run.3)

  -- the lane of an event is good
  its_lane : (cluster : Cluster) (lane : ℕ) (event : Event) (called : Called) (later : List Occurrence) → IsReached masters backups cluster → IsRun cluster (Happens lane event called ∷ later)
      → IsGoodLane Lasts masters lane (lane_at cluster lane)
  its_lane cluster lane event called later reached run = (reached_good masters backups cluster reached).lanes lane run.0.0

  finishes : (cluster : Cluster) (occurrence : Occurrence) (later : List Occurrence) → IsReached masters backups cluster → IsRun cluster (occurrence ∷ later) → OfEvents FinishesMoves cluster occurrence
  finishes cluster (Happens lane event called) later reached run = λ stepped row now source target owner from found moving is now_found owned.
      finished_by (lane_at cluster lane) event called stepped row now source target owner from
      (its_lane cluster lane event called later reached run).sound found moving is now_found owned
  finishes cluster _ later reached run = tt

  refuses : (cluster : Cluster) (occurrence : Occurrence) (later : List Occurrence) → IsReached masters backups cluster → IsRun cluster (occurrence ∷ later) → OfEvents RefusesJustly cluster occurrence
  refuses cluster (Happens lane event called) later reached run =
      let w = lane_at cluster lane in
      let good = its_lane cluster lane event called later reached run in
      record {
        moved = λ new tablet message reply free made replies is.
            each_moved w event new message reply called (sound_requests w good.sound) free made replies tablet is;
        not_yet = λ new message reply key free made replies is.
            each_not_yet w event new message reply called (sound_requests w good.sound) free made replies key good.formed is;
      }
  refuses cluster _ later reached run = tt

  pub all_finished : (cluster : Cluster) (list : List Occurrence) → IsReached masters backups cluster → IsRun cluster list → AtEachStep (OfEvents FinishesMoves) cluster list
  all_finished = each_step (OfEvents FinishesMoves) finishes

  pub all_justified : (cluster : Cluster) (list : List Occurrence) → IsReached masters backups cluster → IsRun cluster list → AtEachStep (OfEvents RefusesJustly) cluster list
  all_justified = each_step (OfEvents RefusesJustly) refuses

-- ---- commands in a cluster

-- the cluster at the end of a run is what occurred made of the one at its start, and what occurred goes on with a run that has come there
pub record IsPlay (masters backups : ℕ) (start : Cluster) (it : Played) : Type 0 where
  pub from : it.cluster ≡ cluster_run start it.occurred
  pub on : GoesOn masters backups start it.occurred

module _ (masters backups : ℕ) where
  -- so it is if something occurred before
  behind_play : (start : Cluster) (pieces : List (List ℕ)) (occurred : List Occurrence) (next : Cluster) (later : Played) → next ≡ cluster_run start occurred
      → GoesOn masters backups start occurred → IsPlay masters backups next later → IsPlay masters backups start (behind pieces occurred later)
  behind_play start pieces occurred next later from on it = grind (arith, cluster_run, runs_join, all_on)

  stopped_play : (line : ℕ) (stop : Stop) (cluster : Cluster) → IsPlay masters backups cluster (stopped_at line stop cluster)
  stopped_play line (Refuses code) cluster = record { from = refl; on = none_on masters backups cluster }
  stopped_play line _ cluster = record { from = refl; on = none_on masters backups cluster }

  continued_play : (start : Cluster) (line : ℕ) (it : Effect) (stop : Option Stop) (rest : Cluster → Played) → it.cluster ≡ cluster_run start it.occurred
      → GoesOn masters backups start it.occurred → IsPlay masters backups it.cluster (rest it.cluster) → IsPlay masters backups start (continued line it stop rest)
  continued_play start line it (Some stop) rest from on later =
      behind_play start [] it.occurred it.cluster (stopped_at line stop it.cluster) from on (stopped_play line stop it.cluster)
  continued_play start line it None rest from on later =
      behind_play start (it.text ∷ []) it.occurred it.cluster (rest it.cluster) from on later

  in_play : (commands : List Numbered) (fates : List (List Fate)) → All IsLawful commands → All HasWidthsAt commands → (cluster : Cluster)
      → IsPlay masters backups cluster (played_in commands fates cluster)
  in_play [] fates lawful widths cluster = record { from = refl; on = none_on masters backups cluster }
  in_play (first ∷ others) fates lawful widths cluster =
      let it : Effect = effect_within cluster first.command (first_fates fates) in
      continued_play cluster first.line it it.stop (λ next. played_in others (other_fates fates) next) (within_from cluster first.command (first_fates fates))
      (within_on masters backups cluster first.command (first_fates fates) (All-head IsLawful first others lawful).command (All-head HasWidthsAt first others widths))
      (in_play others (other_fates fates) (All-tail IsLawful first others lawful) (All-tail HasWidthsAt first others widths) it.cluster)

-- ---- from the start

-- a run began in a new cluster, with as many masters and backups as there may be
pub record IsPlayedAnew (it : Played) : Type 0 where
  pub masters : ℕ
  pub backups : ℕ
  pub few_masters : masters ≤ MOST_MASTERS
  pub backed : 1 ≤ backups
  pub few_backups : backups ≤ MOST_BACKUPS
  pub cluster_is : it.cluster ≡ cluster_run (new_cluster masters backups) it.occurred
  pub run : IsRun (new_cluster masters backups) it.occurred

anew_by : (setting : Setting) (it : Played) → IsSetting setting → IsPlay (how_many setting.masters) (how_many setting.backups) (cluster_by setting) it → IsPlayedAnew it
anew_by setting it may plays = grind (arith, how_many, new_reached)

-- so is a run that ends before any command
ended_anew : (setting : Setting) (it : Played) → IsSetting setting → it.cluster ≡ cluster_by setting → it.occurred ≡ [] → IsPlayedAnew it
ended_anew setting it may is none =
    let masters : ℕ = how_many setting.masters in
    let backups : ℕ = how_many setting.backups in
    anew_by setting it may
    (record {
      from = is ∙ ap (cluster_run (cluster_by setting)) (sym none);
      on = subst (GoesOn masters backups (cluster_by setting)) (sym none) (none_on masters backups (cluster_by setting));
    })

played_anew : (script : List ℕ) (part : Option ℕ) (fates : List (List Fate)) → IsPlayedAnew (played_part part script fates)
played_anew script part fates = opening (λ left one other. IsPlayedAnew one) fates fates
    (λ left line code setting may. ended_anew setting (refused_at line code (cluster_by setting)) may refl refl)
    (λ setting may. ended_anew setting (ending NoMemory (cluster_by setting)) may refl refl)
    (λ left setting may lawful widths.
    anew_by setting (played_in left fates (cluster_by setting)) may
    (in_play (how_many setting.masters) (how_many setting.backups) left fates lawful widths (cluster_by setting)))
    script part

-- ---- the law

historical : (it : Played) → IsPlayedAnew it → IsHistorical it
historical it anew =
    let start : Cluster = new_cluster anew.masters anew.backups in
    let reached : IsReached anew.masters anew.backups start =
    new_reached anew.masters anew.backups anew.few_masters anew.backed anew.few_backups in
    record {
      masters = anew.masters;
      backups = anew.backups;
      few_masters = anew.few_masters;
      backed = anew.backed;
      few_backups = anew.few_backups;
      cluster_is = anew.cluster_is;
      run = anew.run;
      one_map = one_map it.occurred it.cluster
          (record {
            masters = anew.masters;
            backups = anew.backups;
            few_masters = anew.few_masters;
            backed = anew.backed;
            few_backups = anew.few_backups;
            leads = record { run = anew.run; is = anew.cluster_is };
          });
      sound = all_sound anew.masters anew.backups start it.occurred reached anew.run;
      finished = all_finished anew.masters anew.backups start it.occurred reached anew.run;
      justified = all_justified anew.masters anew.backups start it.occurred reached anew.run;
    }

-- a part of a script played is a run of a new cluster, and so it has one history
pub scripts_historical : (script : List ℕ) (part : Option ℕ) (fates : List (List Fate)) → IsHistorical (played_part part script fates)
scripts_historical script part fates = historical (played_part part script fates) (played_anew script part fates)
