-- Lanes and sessions that were gathered, once nobody steps them any more.
use Rattle.std.specs.Prelude.{◌≡◌, ◌≤◌, ◌<◌, ℕ, ◌+◌, All, IfSome, List, None, false, length}
use Rattle.std.specs.List.{sum_by}
use Rattle.rk_types.specs.NumberMap.{EachIn, IsInOrder}
use Rattle.rk_types.specs.declared.history.Placed.{Placed}
use Rattle.rk_model.specs.Merged.{is_mutation}
use Rattle.rk_model.specs.Ordered.{IsRecorded}
use Rattle.rk_world.specs.Client.{Session}
use Rattle.rk_world.specs.Cluster.{Cluster, journals_of, lane_at}
use Rattle.rk_world.specs.Ledger.{asked_by}
use Rattle.rk_world.specs.World.{World}
use Rattle.rk_sound.specs.Asked.{IsAccepted}
use Rattle.rk_runs.specs.history.Agreement.{AreRisingAbove, waiting}
use Rattle.rk_laws_lanes.specs.GoodLane.{IsGoodLane}
use Rattle.rk_laws_lanes.specs.gathered.Answers.{AreOwn, accepted_in}
use Rattle.rk_laws_lanes.specs.gathered.OpenCalls.{HasCountedCalls}
use Rattle.rk_laws_lanes.specs.gathered.Sessions.{calls_in, receipts_in}

-- a client's session is orderly: but for the outstanding call it has one receipt of each of its calls, and their stamps rise and were seen
pub record IsOrderly (client : ℕ) (session : Session) : Type 0 where
  pub client_is : session.client ≡ client
  pub receipts : AreOwn client session.receipts
  pub last : session.last ≡ length session.receipts + waiting session.outstanding
  pub outstanding : IfSome session.outstanding (λ call. (call.client ≡ client) × (call.seq ≡ session.last))
  pub rising : AreRisingAbove 0 session.receipts
  pub seen : All (λ receipt. receipt.stamp ≤ session.seen) session.receipts

-- a session ended: it is orderly, and no call is outstanding
pub record IsEnded (client : ℕ) (session : Session) : Type 0 where
  pub orderly : IsOrderly client session
  pub answered : session.outstanding ≡ None

-- good lanes, and sessions that ended, of which each receipt is that of the accepted record at its lane and place
pub record AreGathered (masters : ℕ) (cluster : Cluster) : Type 0 where
  pub lanes : (lane : ℕ) → lane < length cluster.lanes → IsGoodLane masters lane (lane_at cluster lane)
  pub order : IsInOrder cluster.sessions
  pub ended : EachIn IsEnded cluster.sessions
  pub recorded : All (IsRecorded (journals_of cluster)) (receipts_in cluster.sessions)

-- how many calls all lanes were asked
abbrev pub asked_in : Cluster → ℕ
asked_in cluster = sum_by (λ w. w.ledger.asked) cluster.lanes

-- each lane has counted its calls, and all of them were asked at most as many as the sessions made
pub record AreCounted (cluster : Cluster) : Type 0 where
  pub lanes : All (λ w. HasCountedCalls w.ledger) cluster.lanes
  pub calls : asked_in cluster ≤ calls_in cluster.sessions

-- the last call that each client asked in a lane is accepted there
abbrev pub LastAreAccepted : World → Type 0
LastAreAccepted w =
    (client : ℕ) → IfSome (asked_by w.ledger client) (λ last. IsAccepted w.ledger.journal last.call)

-- each call was answered: there are no more accepted records than receipts, and what was asked last is accepted
pub record AreAnswered (cluster : Cluster) : Type 0 where
  pub records : accepted_in (journals_of cluster) ≤ length (receipts_in cluster.sessions)
  pub last : All LastAreAccepted cluster.lanes

-- a record repeats an accepted one: it is a read, and an accepted record is of the very call
pub record IsRepeatedRead (journal : List Placed) (placed : Placed) : Type 0 where
  pub read : is_mutation placed.call.op ≡ false
  pub accepted : IsAccepted journal placed.call
