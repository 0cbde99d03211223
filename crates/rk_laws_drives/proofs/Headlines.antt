-- The headline laws of drives: lanes that were gathered, with the sessions of clients that ended, stay ready while the cluster that they
-- make settles, and have one history in the end.
use Rattle.std.proofs.Common.{◌≡◌, ℕ, List, true, All, ◌<◌, length}
use Rattle.rk_model.specs.Ordered.{IsRecorded}
use Rattle.rk_world.specs.Cluster.{Cluster, Occurrence, cluster_run, HasOneHistory, journals_of, IsQuietCluster, lane_at}
use Rattle.rk_world.specs.ClusterRuns.{IsRun}
use Rattle.rk_cluster.specs.Effects.{RunsTo}
use Rattle.rk_cluster.specs.Replicas.{Fate}
use Rattle.rk_settle.specs.Commanded.{SettlingCommand}
use Rattle.rk_settle.specs.Course.{course_of, moved_all}
use Rattle.rk_laws_lanes.specs.gathered.Answers.{HasJustTheAnswers, AreOfDistinctCalls}
use Rattle.rk_laws_lanes.specs.gathered.Sessions.{receipts_in}
use Rattle.rk_laws_lanes.specs.gathered.StoredHistory.{HistoryIsStored}
use Rattle.rk_laws_drives.specs.Ready.{AreReady, StaysReady}
use Rattle.rk_laws_drives.specs.Work.{are_work}

-- A run of work leaves a ready cluster ready, and its sessions as they were. Work is what occurs while nobody asks a new call: events of
-- lanes, and turns and answers of clients that have a session.
pub work_keeps_lanes_ready : (masters : ℕ) (start : Cluster) (occurred : List Occurrence) → AreReady masters start → IsRun start occurred
    → are_work start occurred ≡ true → StaysReady masters start (cluster_run start occurred)
work_keeps_lanes_ready = Rattle.rk_laws_drives.proofs.Working.work_keeps

-- A settling command, as `settle`, leaves a ready cluster ready, and its sessions as they were: after any moves of its course, whatever
-- becomes of the calls of replicas there (`fates`), if what occurred is a run of the cluster at its start, as it is of each course that
-- code makes.
pub settling_keeps_lanes_ready : (masters : ℕ) (command : SettlingCommand) (start : Cluster) (fates : List Fate)
    → let course = moved_all (course_of start (command start)) fates in
    AreReady masters start → RunsTo start course.occurred course.cluster → StaysReady masters start course.cluster
settling_keeps_lanes_ready = Rattle.rk_laws_drives.proofs.Settling.settling_keeps

-- The lanes of a ready cluster, as that which a drive settles to, have one history with its sessions, if each receipt is that of an
-- accepted record (`one_history`). That history has the answer of each receipt once, and nothing else (`just_answers`). No two receipts are
-- of one call (`once`), so each call is in it exactly once. If the cluster is quiet, the logs that the backups store have just the records
-- of the history (`all_stored`).
module _ (masters : ℕ) (cluster : Cluster) (ready : AreReady masters cluster) where
  pub one_history : All (IsRecorded (journals_of cluster)) (receipts_in cluster.sessions) → HasOneHistory cluster
  one_history = Rattle.rk_laws_drives.proofs.Histories.one_history masters cluster ready

  pub just_answers : All (IsRecorded (journals_of cluster)) (receipts_in cluster.sessions)
      → HasJustTheAnswers (journals_of cluster) (receipts_in cluster.sessions)
  just_answers = Rattle.rk_laws_drives.proofs.Histories.just_answers masters cluster ready

  pub once : AreOfDistinctCalls (receipts_in cluster.sessions)
  once = Rattle.rk_laws_drives.proofs.Histories.once masters cluster ready

  pub all_stored : (lane : ℕ) → IsQuietCluster cluster → lane < length cluster.lanes → HistoryIsStored cluster lane (lane_at cluster lane)
  all_stored = Rattle.rk_laws_drives.proofs.Histories.all_stored masters cluster ready
