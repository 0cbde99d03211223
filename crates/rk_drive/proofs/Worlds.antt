-- Lanes that were gathered make a cluster of good worlds.
use Rattle.std.proofs.Common.{◌≡◌, ◌<◌, ℕ, ◌+◌, zero, suc, List, [], ◌∷◌, length, true, Option, Some, None, refl, subst, arith, is_some}
use Rattle.std.specs.Prelude.{⊤, IfSome, slice_index_or}
use Rattle.std.specs.List.{All, range_with_len}
use Rattle.std.proofs.lemmas.List.Elements.{All-cons, All-head, All-nil, All-tail}
use Rattle.rk_outside.specs.Segments.{Segments}
use Rattle.rk_world.specs.World.{World}
use Rattle.rk_lane.specs.LaneState.{LaneState, Running, world_with}
use Rattle.rk_cluster.specs.Masters.{HasBackups}
use Rattle.rk_cluster.specs.State.{AreWorlds}
use Rattle.rk_cluster.specs.Steps.{AreLanes}
use Rattle.rk_laws_drives.specs.Below.{IsGoodLane}
use Rattle.rk_laws_drives.specs.Below.{HasCountedCalls}
use Rattle.rk_shared_lanes.specs.Kept.{IsSoundOrSpent, StandsFor}
use Rattle.rk_shared_lanes.specs.Together.{AllCounted, AllSoundOrSpent, IsOfRoster, numbers_of}
use Rattle.rk_drive.proofs.Entries.{head_same, tail_same}

-- lanes by rising number, each of so many masters
pub are_lanes : {R : Type 0} (masters backups place : ℕ) (clients : List ℕ) (lanes : List (LaneState R)) → numbers_of lanes ≡ range_with_len place (length lanes)
    → All (IsOfRoster masters backups clients) lanes → AreLanes masters place lanes
are_lanes masters backups place clients [] are roster = tt
are_lanes masters backups place clients (lane ∷ lanes) are roster = (
  head_same are,
  (All-head (IsOfRoster masters backups clients) lane lanes roster).masters_are,
  are_lanes masters backups (place + 1) clients lanes (tail_same are) (All-tail (IsOfRoster masters backups clients) lane lanes roster),
)

pub have_backups : {R : Type 0} (masters backups : ℕ) (clients : List ℕ) (lanes : List (LaneState R)) → All (IsOfRoster masters backups clients) lanes → All (HasBackups backups) lanes
have_backups masters backups clients [] roster = All-nil _
have_backups masters backups clients (lane ∷ lanes) roster =
    grind (arith, (have_backups masters backups clients lanes (All-tail (IsOfRoster masters backups clients) lane lanes roster)))

-- good worlds of lanes with these numbers
abbrev AreGood : ℕ → ℕ → List World → Type 0
AreGood masters place [] = ⊤
AreGood masters place (w ∷ worlds) = IsGoodLane masters place w × AreGood masters (place + 1) worlds

pub good_at : (masters place : ℕ) (worlds : List World) (lane : ℕ) (d : World) → AreGood masters place worlds → lane < length worlds
    → IsGoodLane masters (place + lane) (slice_index_or worlds lane d)
good_at masters place [] lane d good inside = absurd (omega (arith, inside))
good_at masters place (w ∷ worlds) zero d good inside = subst (λ (n : ℕ). IsGoodLane masters n w) (omega arith) good.0
good_at masters place (w ∷ worlds) (suc lane) d good inside =
    subst (λ (n : ℕ). IsGoodLane masters n (slice_index_or worlds lane d)) (omega arith) (good_at masters (place + 1) worlds lane d good.1 (omega (arith, inside)))

-- lanes represent good worlds that counted their calls
pub record StandForGood {R : Type 0} (segments : R → Option Segments) (masters place : ℕ) (lanes : List (LaneState R)) : Type 0 where
  pub worlds : List World
  pub are : AreWorlds segments lanes worlds
  pub good : AreGood masters place worlds
  pub counted : All (λ (w : World). HasCountedCalls w.ledger) worlds

module _ {R : Type 0} (segments : R → Option Segments) where
  -- a lane that runs
  record StandsForGood (masters place : ℕ) (lane : LaneState R) : Type 0 where
    pub running : Running
    pub runs : lane.running ≡ Some running
    pub stands : StandsFor segments lane running

  one_stands : (lane : LaneState R) (found : Option Running) → lane.running ≡ found → is_some found ≡ true → IfSome found (StandsFor segments lane) → StandsForGood lane.masters lane.number lane
  one_stands lane None is runs sound = absurd (cc runs)
  one_stands lane (Some running) is runs sound = record { running = running; runs = is; stands = sound }

  pub stand_for_good : (masters place : ℕ) (lanes : List (LaneState R)) → AreLanes masters place lanes → All (λ lane. is_some lane.running ≡ true) lanes
      → AllSoundOrSpent segments lanes → AllCounted lanes → StandForGood segments masters place lanes
  stand_for_good masters place [] are runs sound counted = record { worlds = []; are = tt; good = tt; counted = All-nil _ }
  stand_for_good masters place (lane ∷ lanes) are runs sound counted =
      let here = one_stands lane lane.running refl (All-head (λ (l : LaneState R). is_some l.running ≡ true) lane lanes runs) (All-head (IsSoundOrSpent segments) lane lanes sound) in
      let rest =
      stand_for_good masters (place + 1) lanes are.2 (All-tail (λ (l : LaneState R). is_some l.running ≡ true) lane lanes runs)
      (All-tail (IsSoundOrSpent segments) lane lanes sound) (All-tail (λ (l : LaneState R). HasCountedCalls l.ledger) lane lanes counted) in
      let w : World = world_with lane here.running here.stands.stored in
      let good : IsGoodLane masters place w =
      subst (λ (number : ℕ). IsGoodLane masters number w) are.0 (subst (λ (count : ℕ). IsGoodLane count lane.number w) are.1 here.stands.good) in
      record {
        worlds = w ∷ rest.worlds;
        are = (
          record { running = here.running; runs = here.runs; stored = here.stands.stored; told = here.stands.told; is = refl; all = good.steady.tell },
          rest.are,
        );
        good = (good, rest.good);
        counted = All-cons (λ (it : World). HasCountedCalls it.ledger) w rest.worlds (All-head (λ (l : LaneState R). HasCountedCalls l.ledger) lane lanes counted) rest.counted;
      }
