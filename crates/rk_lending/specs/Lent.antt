-- How the replicas of a run are lent to its cluster, and given back.
use Rattle.std.specs.Prelude.{◌≡◌, ◌≤◌, ◌+◌, ◌*◌, ◌++◌, ℕ, List, [], drop, length, take, Some, slice_get, vec_capacity}
use Rattle.std.specs.Global.{Vec}
use Rattle.rk_types.specs.declared.hashing.TheConstants.{LANES}
use Rattle.rk_log.specs.declared.copied.TheConstants.{MOST_BACKUPS}
use Rattle.rk_lane.specs.LaneState.{LaneState, replicas_of}
use Rattle.rk_cluster.specs.Dealt.{IsEighth}
use Rattle.rk_lending.specs.declared.lending.Kept.{Kept}
use Rattle.rk_lending.specs.declared.lending.TheConstants.{REPLICAS}

-- nothing is in it yet, and memory for so many things has been taken
pub record IsRoomFor {X : Type 0} (count : ℕ) (things : Vec X) : Type 0 where
  pub nothing : things.items ≡ []
  pub room : count ≤ vec_capacity things

-- there is room for all replicas of a run, of which these are kept
pub record IsRoom {R : Type 0} (kept : Kept R) (room : Vec R) : Type 0 where
  pub hands : IsRoomFor LANES kept.hands
  pub room_is : IsRoomFor REPLICAS room
  pub few : kept.backups ≤ MOST_BACKUPS
  pub all : LANES * kept.backups + length kept.others.items ≡ REPLICAS

-- the replicas of so many backups were lent, and the others are kept
pub record HasLent {R : Type 0} (backups : ℕ) (old new its : Vec R) (kept : Kept R) : Type 0 where
  pub its_are : its.items ≡ take (LANES * backups) old.items
  pub backups_are : kept.backups ≡ backups
  pub others_are : kept.others.items ≡ drop (LANES * backups) old.items
  pub room : IsRoom kept new

-- replicas are those of eight lanes, each lane's at the places that it has in turn, and behind them the others
pub record AreGivenBack {R : Type 0} (lanes : List (LaneState R)) (others replicas : List R) : Type 0 where
  pub its : List R
  pub whole : replicas ≡ its ++ others
  pub count : length replicas ≡ REPLICAS
  pub eight : length lanes ≡ LANES
  pub each : (number : ℕ) (lane : LaneState R) → slice_get lanes number ≡ Some lane → IsEighth its number (replicas_of lane.backups)
