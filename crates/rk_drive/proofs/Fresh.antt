-- The lanes of a new cluster are fresh and sound.
use Rattle.std.proofs.Common.{◌≡◌, ◌≤◌, ℕ, ◌+◌, zero, suc, List, [], ◌∷◌, ◌++◌, length, map, Option, Some, refl, sym, ap, subst, arith}
use Rattle.std.specs.Prelude.{IfSome, slice_get}
use Rattle.std.specs.List.{All, range_with_len}
use Rattle.std.proofs.lemmas.List.Elements.{All-cons, All-head, All-nil, All-tail}
use Rattle.rk_log.specs.declared.copied.TheConstants.{MOST_BACKUPS}
use Rattle.rk_outside.specs.Segments.{Segments}
use Rattle.rk_world.specs.Premises.{MOST_MASTERS}
use Rattle.rk_world.specs.World.{World, new_world}
use Rattle.rk_lane.specs.LaneState.{LaneState, Running, world_with}
use Rattle.rk_cluster.specs.Fresh.{IsNewLane}
use Rattle.rk_cluster.specs.State.{AreWorlds, IsWorld}
use Rattle.rk_laws_drives.specs.Below.{IsGoodLane}
use Rattle.rk_laws_drives.proofs.Below.{good_new}
use Rattle.rk_shared_lanes.specs.Kept.{IsSoundOrSpent, StandsFor}
use Rattle.rk_shared_lanes.specs.Together.{AllSoundOrSpent, numbers_of}
use Rattle.rk_drive.specs.Beginning.{IsFresh}

-- each lane from a place on is new there
abbrev pub AreNew : {R : Type 0} → ℕ → ℕ → ℕ → List (LaneState R) → Type 0
AreNew {R} masters backups place lanes = (at : ℕ) (lane : LaneState R) → slice_get lanes at ≡ Some lane → IsNewLane masters backups (place + at) lane

module _ {R : Type 0} (masters backups : ℕ) where
  rest_new : (place : ℕ) (lane : LaneState R) (lanes : List (LaneState R)) → AreNew masters backups place (lane ∷ lanes) → AreNew masters backups (place + 1) lanes
  rest_new place lane lanes new at other there = subst (λ (n : ℕ). IsNewLane masters backups n other) (omega arith) (new (suc at) other there)

  first_new : (place : ℕ) (lane : LaneState R) (lanes : List (LaneState R)) → AreNew masters backups place (lane ∷ lanes) → IsNewLane masters backups place lane
  first_new place lane lanes new = subst (λ (n : ℕ). IsNewLane masters backups n lane) (omega arith) (new 0 lane refl)

  -- from the first place on
  pub all_new : (lanes : List (LaneState R)) → ((at : ℕ) (lane : LaneState R) → slice_get lanes at ≡ Some lane → IsNewLane masters backups at lane)
      → AreNew masters backups 0 lanes
  all_new lanes each at lane there = subst (λ (n : ℕ). IsNewLane masters backups n lane) (omega arith) (each at lane there)

  pub numbers_new : (place : ℕ) (lanes : List (LaneState R)) → AreNew masters backups place lanes → numbers_of lanes ≡ range_with_len place (length lanes)
  numbers_new place [] new = refl
  numbers_new place (lane ∷ lanes) new =
      let head = (first_new place lane lanes new).number_is in
      let tail = numbers_new (place + 1) lanes (rest_new place lane lanes new) in
      (λ i. head i ∷ tail i)

  pub all_fresh : (place : ℕ) (lanes : List (LaneState R)) → AreNew masters backups place lanes → All (IsFresh masters backups) lanes
  all_fresh place [] new = All-nil _
  all_fresh place (lane ∷ lanes) new =
      let it = first_new place lane lanes new in
      All-cons (IsFresh masters backups) lane lanes
      (record { masters_are = it.masters_are; backups_are = it.backups_are; ledger_is = ap (λ (w : World). w.ledger) it.world })
      (all_fresh (place + 1) lanes (rest_new place lane lanes new))

  -- ---- soundness

  module _ (segments : R → Option Segments) (few : masters ≤ MOST_MASTERS) (backed : 1 ≤ backups) (few_backups : backups ≤ MOST_BACKUPS) where
    one_sound : (place : ℕ) (lane : LaneState R) → IsFresh masters backups lane → IsWorld segments lane (new_world place masters backups) → IsSoundOrSpent segments lane
    one_sound place lane fresh it =
        let good : IsGoodLane masters place (world_with lane it.running it.stored) =
        subst (IsGoodLane masters place) it.is (good_new masters backups place few backed few_backups) in
        let number : place ≡ lane.number = ap (λ (w : World). w.lane) it.is in
        subst (λ (running : Option Running). IfSome running (StandsFor segments lane)) (sym it.runs)
        (record {
          stored = it.stored;
          told = it.told;
          good =
              subst (λ (count : ℕ). IsGoodLane count lane.number (world_with lane it.running it.stored)) (sym fresh.masters_are)
              (subst (λ (n : ℕ). IsGoodLane masters n (world_with lane it.running it.stored)) number good);
        })

    pub all_sound : (place count : ℕ) (lanes : List (LaneState R)) → All (IsFresh masters backups) lanes
        → AreWorlds segments lanes (map (λ lane. new_world lane masters backups) (range_with_len place count)) → AllSoundOrSpent segments lanes
    all_sound place count [] fresh are = All-nil _
    all_sound place zero (lane ∷ lanes) fresh are = absurd are
    all_sound place (suc count) (lane ∷ lanes) fresh are =
        All-cons (IsSoundOrSpent segments) lane lanes (one_sound place lane (All-head (IsFresh masters backups) lane lanes fresh) are.0)
        (all_sound (place + 1) count lanes (All-tail (IsFresh masters backups) lane lanes fresh) are.1)

-- ---- one lane after the other

-- a lane that was prepared has its number in its place
pub numbers_moved : {R : Type 0} (done : List (LaneState R)) (prepared lane : LaneState R) (rest : List (LaneState R)) → prepared.number ≡ lane.number
    → numbers_of (done ++ prepared ∷ []) ++ numbers_of rest ≡ numbers_of done ++ numbers_of (lane ∷ rest)
numbers_moved [] prepared lane rest same = ap (λ (number : ℕ). number ∷ numbers_of rest) same
numbers_moved (other ∷ done) prepared lane rest same = ap (λ (numbers : List ℕ). other.number ∷ numbers) (numbers_moved done prepared lane rest same)
