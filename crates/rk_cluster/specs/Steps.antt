-- What events make of the lanes of a cluster in code.
use Rattle.std.specs.Prelude.{◌≡◌, ◌<◌, ℕ, ◌+◌, Bool, false, List, [], ◌∷◌, ◌++◌, map, Option, None, Some, Result, Ok, Err, slice_get, ⊤}
use Rattle.rk_types.specs.NumberMap.{NumberMap, EachIn}
use Rattle.rk_outside.specs.Segments.{Segments}
use Rattle.rk_world.specs.Backup.{Gave}
use Rattle.rk_world.specs.Client.{Session}
use Rattle.rk_world.specs.Cluster.{Cluster, Happens, Occurrence, lane_at}
use Rattle.rk_world.specs.Premises.{MayAct, MayHappen}
use Rattle.rk_world.specs.Step.{step}
use Rattle.rk_world.specs.World.{new_world}
use Rattle.rk_world.specs.declared.error.StepError.{StepError}
use Rattle.rk_world.specs.declared.error.StepError.TheVariants as causes
use Rattle.rk_world.specs.declared.event.Event.{Event}
use Rattle.rk_world.specs.declared.event.Event.TheVariants as events
use Rattle.rk_world.specs.declared.event.Seen.{Seen}
use Rattle.rk_lane.specs.Events.{MayComeTo}
use Rattle.rk_lane.specs.LaneState.{LaneState}
use Rattle.rk_cluster.specs.Acted.{lost_in}
use Rattle.rk_cluster.specs.State.{ClusterState, IsOf}
use Rattle.rk_cluster.specs.Effects.{Acts, ActsAs, AreCutShort, Carries}
use Rattle.rk_cluster.specs.Faults.{LanesGoOn}
use Rattle.rk_cluster.specs.Replicas.{Fate, answer_of, happening}
use Rattle.rk_cluster.specs.declared.error.ClusterError.{ClusterError}
use Rattle.rk_cluster.specs.declared.error.ClusterError.TheVariants as errors
use Rattle.rk_cluster.specs.declared.steps.Deed.{Deed}

-- a cluster of these lanes and sessions
abbrev pub state_of : {R : Type 0} → List (LaneState R) → NumberMap Session → ClusterState R
state_of lanes sessions = record { lanes = lanes; sessions = sessions }

-- why a call ends when a lane answers so: it is worn, or memory is wanting; each other refusal is passed over
abbrev pub failure_of : Result Seen StepError → Option ClusterError
failure_of (Ok seen) = None
failure_of (Err causes.NoMemory) = Some errors.NoMemory
failure_of (Err (causes.Worn number)) = Some (errors.Worn number)
failure_of (Err _) = None

-- whether a lane's answer shows that a message was lost
abbrev pub lost_by : Result Seen StepError → Bool
lost_by (Ok seen) = seen.lost
lost_by (Err error) = false

-- lanes from a place on have their numbers, and so many masters
abbrev pub AreLanes : {R : Type 0} → ℕ → ℕ → List (LaneState R) → Type 0
AreLanes masters place [] = ⊤
AreLanes masters place (lane ∷ lanes) = (lane.number ≡ place) × (lane.masters ≡ masters) × AreLanes masters (place + 1) lanes

-- an event may come to the lane at a place
abbrev pub MayComeAt : {R : Type 0} → List (LaneState R) → ℕ → Event → Type 0
MayComeAt {R} lanes place event = (lane : LaneState R) → slice_get lanes place ≡ Some lane → MayComeTo lane event

-- an event came to a lane, by the fate of the call of a replica, if one was called; if that failed, the replica's count of faults rose
pub record IsHappening {R : Type 0} (segments : R → Option Segments) (faults : R → ℕ) (old new : List (LaneState R)) (lane : ℕ) (event : Event) (broken : Option ℕ) : Type 0 where
  pub fate : Fate
  pub counts : LanesGoOn faults (fate ∷ []) old new
  pub acts : (sessions : NumberMap Session)
      → ActsAs segments (state_of old sessions) (state_of new sessions) (λ cluster. happening cluster lane event fate) [] broken

-- an event came to a lane; by the fate of the call of a replica, the definitions show a message lost there exactly if `lost` says so
pub record IsLosing {R : Type 0} (segments : R → Option Segments) (faults : R → ℕ) (old new : List (LaneState R)) (lane : ℕ) (event : Event) (broken : Option ℕ) (lost : Bool) : Type 0 where
  pub happens : IsHappening segments faults old new lane event broken
  pub shows : (sessions : NumberMap Session) (cluster : Cluster) → IsOf segments (state_of old sessions) cluster
      → lost_in (step (lane_at cluster lane) event (answer_of cluster lane event happens.fate)) ≡ lost

-- an event that calls no replica, and may come to each lane
abbrev pub IsPlain : Event → Type 0
IsPlain (events.Deliver number) = ⊥
IsPlain (events.Crash master) = ⊥
IsPlain event = ⊤

-- a deed that may be done if there are so many lanes and masters
pub record IsDeed (lanes masters : ℕ) (deed : Deed) : Type 0 where
  pub there : deed.lane < lanes
  pub plain : IsPlain deed.event
  pub may : MayHappen (new_world 0 masters 0) deed.event

-- what occurs by deeds
abbrev pub occurrences : List Deed → List Occurrence
occurrences deeds = map (λ deed. Happens deed.lane deed.event (Gave None)) deeds

-- what is left of some deeds comes of all
abbrev pub CarriesSteps : {R : Type 0} → (R → Option Segments) → List (LaneState R) → List (LaneState R) → List Deed → List Deed → Type 0
CarriesSteps segments old new all left =
    (sessions : NumberMap Session) → Carries segments (state_of old sessions) (state_of new sessions) (occurrences all) (occurrences left)

-- an error says that memory is wanting, or that a number is worn of which this holds
abbrev pub WhereWorn : (ℕ → Type 0) → ClusterError → Type 0
WhereWorn Holds errors.NoMemory = ⊤
WhereWorn Holds (errors.Code code) = ⊥
WhereWorn Holds (errors.Worn number) = Holds number

-- these occurrences, with more behind them, ended at this number, which is worn
abbrev pub EndsWorn : {R : Type 0} → (R → Option Segments) → ClusterState R → ClusterState R → List Occurrence → ℕ → Type 0
EndsWorn segments old new all number = (more : List Occurrence) → Acts segments old new (all ++ more) [] (Some number)

-- so did these deeds
abbrev pub StepsEndWorn : {R : Type 0} → (R → Option Segments) → List (LaneState R) → List (LaneState R) → List Deed → ℕ → Type 0
StepsEndWorn segments old new all number =
    (sessions : NumberMap Session) → EndsWorn segments (state_of old sessions) (state_of new sessions) (occurrences all) number

-- these deeds were cut short by want of memory
abbrev pub AreStepsCutShort : {R : Type 0} → (R → Option Segments) → List (LaneState R) → List (LaneState R) → List Deed → Type 0
AreStepsCutShort segments old new all =
    (sessions : NumberMap Session) → AreCutShort segments (state_of old sessions) (state_of new sessions) (occurrences all)

-- each session may act in lanes with so many masters
abbrev pub MayAllAct : ℕ → NumberMap Session → Type 0
MayAllAct masters sessions = EachIn (λ client session. MayAct masters session) sessions
