-- A ready cluster in which each receipt is that of an accepted record has one history.
use Rattle.std.proofs.Common.{ℕ, ◌<◌, length}
use Rattle.std.specs.Prelude.{map}
use Rattle.std.specs.List.{All}
use Rattle.rk_model.specs.Ordered.{IsRecorded}
use Rattle.rk_world.specs.Cluster.{Cluster, HasOneHistory, IsQuietCluster, journals_of, lane_at}
use Rattle.rk_world.specs.World.{new_world}
use Rattle.rk_laws_lanes.specs.gathered.Answers.{AreOfDistinctCalls, HasJustTheAnswers}
use Rattle.rk_laws_lanes.specs.gathered.Gathered.{AreAnswered, AreGathered}
use Rattle.rk_laws_lanes.specs.gathered.Sessions.{receipts_in}
use Rattle.rk_laws_lanes.specs.gathered.StoredHistory.{HistoryIsStored}
use Rattle.rk_laws_lanes.proofs.gathered.Answered.{all_answered}
use Rattle.rk_laws_lanes.proofs.gathered.History.{history, just_the_answers}
use Rattle.rk_laws_lanes.proofs.gathered.Sessions.{distinct_calls}
use Rattle.rk_laws_lanes.proofs.gathered.Stored.{stored}
use Rattle.rk_laws_drives.specs.Ready.{AreReady}

module _ (masters : ℕ) (cluster : Cluster) (ready : AreReady masters cluster) where
  pub once : AreOfDistinctCalls (receipts_in cluster.sessions)
  once = distinct_calls cluster.sessions ready.order (λ client session found. (ready.ended client session found).orderly.receipts)

  pub all_stored : (lane : ℕ) → IsQuietCluster cluster → lane < length cluster.lanes → HistoryIsStored cluster lane (lane_at cluster lane)
  all_stored lane quiet inside =
      stored masters cluster ready.lanes lane inside (map (λ entry. entry.1) cluster.sessions) (quiet lane (new_world lane 0 0) inside)

  module _ (recorded : All (IsRecorded (journals_of cluster)) (receipts_in cluster.sessions)) where
    gathered : AreGathered masters cluster
    gathered = record { lanes = ready.lanes; order = ready.order; ended = ready.ended; recorded = recorded }

    answered : AreAnswered cluster
    answered = all_answered masters cluster gathered ready.counted

    pub one_history : HasOneHistory cluster
    one_history = history masters cluster gathered answered

    pub just_answers : HasJustTheAnswers (journals_of cluster) (receipts_in cluster.sessions)
    just_answers = just_the_answers masters cluster gathered answered
