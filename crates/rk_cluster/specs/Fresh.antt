-- The lanes of a new cluster.
use Rattle.std.specs.Prelude.{◌≡◌, ◌≤◌, ◌+◌, ℕ, List, [], ◌∷◌, All, length, Option, Some, ⊤}
use Rattle.std.specs.Global.{Vec}
use Rattle.rk_log.specs.declared.copied.TheConstants.{MOST_BACKUPS}
use Rattle.rk_outside.specs.Segments.{Segments}
use Rattle.rk_world.specs.Backup.{no_segments}
use Rattle.rk_world.specs.World.{new_backups, new_world}
use Rattle.rk_lane.specs.LaneState.{AreTold, LaneState, Running, replicas_of, world_with}

-- a lane where nothing has happened, with so many masters and backups, whatever these store
pub record IsNewLane {R : Type 0} (masters backups number : ℕ) (lane : LaneState R) : Type 0 where
  pub number_is : lane.number ≡ number
  pub masters_are : lane.masters ≡ masters
  pub backups_are : length lane.backups ≡ backups
  pub running : Running
  pub runs : lane.running ≡ Some running
  pub world : world_with lane running [] ≡ record (new_world number masters backups) { backups = [] }

-- replicas report that nothing was written
abbrev pub AreEmpty : {R : Type 0} → (R → Option Segments) → List R → Type 0
AreEmpty segments replicas = All (λ replica. segments replica ≡ Some no_segments) replicas

-- as many replicas as a lane may have
pub record IsHand {X : Type 0} (hand : Vec X) : Type 0 where
  pub some : 1 ≤ length hand.items
  pub few : length hand.items ≤ MOST_BACKUPS

-- a new lane was made of these replicas
pub record IsMadeOf {R : Type 0} (segments : R → Option Segments) (masters number : ℕ) (replicas : List R) (lane : LaneState R) : Type 0 where
  pub new : IsNewLane masters (length replicas) number lane
  pub replicas_are : replicas_of lane.backups ≡ replicas
  pub told : AreEmpty segments replicas → AreTold segments lane.backups (new_backups (length replicas))

-- new lanes were made of these, numbered from this one on
abbrev pub AreMadeOf : {R : Type 0} → (R → Option Segments) → ℕ → ℕ → List (Vec R) → List (LaneState R) → Type 0
AreMadeOf segments masters number [] [] = ⊤
AreMadeOf segments masters number (hand ∷ hands) (lane ∷ lanes) =
    IsMadeOf segments masters number hand.items lane × AreMadeOf segments masters (number + 1) hands lanes
AreMadeOf segments masters number hands lanes = ⊥
