-- What want of memory leaves of a cluster in code: one lane may be spent, and one client may have taken its turn.
use Rattle.std.specs.Prelude.{◌≡◌, ◌⊎◌, ℕ, List, None, Some, slice_get, slice_set}
use Rattle.rk_types.specs.NumberMap.{NumberMap, get, insert}
use Rattle.rk_world.specs.Client.{Session}
use Rattle.rk_lane.specs.LaneState.{IsSameLane, LaneState}
use Rattle.rk_lane.specs.Visits.{MayHaveTurned}
use Rattle.rk_cluster.specs.State.{ClusterState}

-- a lane is spent, and its journal, the calls that were asked and the clients that were added are as they were
pub record IsSpentFrom {R : Type 0} (old new : LaneState R) : Type 0 where
  pub spent : new.running ≡ None
  pub lane : IsSameLane old new
  pub journal : new.ledger.journal ≡ old.ledger.journal
  pub asked : new.ledger.asked ≡ old.ledger.asked
  pub clients : new.ledger.clients ≡ old.ledger.clients

-- the lane at a place is spent, and all others are as they were
pub record HasSpentOne {R : Type 0} (old new : List (LaneState R)) : Type 0 where
  pub place : ℕ
  pub was : LaneState R
  pub is : LaneState R
  pub there : slice_get old place ≡ Some was
  pub spent : IsSpentFrom was is
  pub others : new ≡ slice_set old place is

-- all lanes are as they were, but for one at most, which is spent
abbrev pub AreButOne : {R : Type 0} → List (LaneState R) → List (LaneState R) → Type 0
AreButOne old new = (new ≡ old) ⊎ HasSpentOne old new

-- a client has taken its turn, and all other sessions are as they were
pub record HasTurnedOne (old new : NumberMap Session) : Type 0 where
  pub client : ℕ
  pub was : Session
  pub is : Session
  pub there : get old client ≡ Some was
  pub turned : MayHaveTurned was is
  pub others : new ≡ insert old client is

-- memory was wanting in a cluster: all is as it was, but that one lane may be spent, and one client may have taken its turn
pub record IsShortOf {R : Type 0} (old new : ClusterState R) : Type 0 where
  pub lanes : AreButOne old.lanes new.lanes
  pub sessions : (new.sessions ≡ old.sessions) ⊎ HasTurnedOne old.sessions new.sessions
