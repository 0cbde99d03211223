-- Lanes and the worlds that they stand for, place by place.
use Rattle.std.proofs.Common.{drop-cons, get_or}
use Rattle.rk_cluster.proofs.Words.{length-set, get_or-set_same, set-get_or, slice_get_within, ◌≡◌, ◌≢◌, ℕ, zero, suc, ◌+◌, ◌<◌, List, []}
use Rattle.rk_cluster.proofs.Words.{◌∷◌, All, drop, length, slice_get, slice_set, slice_index_or, Option, Some, refl, sym, ap, subst, ◌∙◌}
use Rattle.rk_cluster.proofs.Words.{arith, Segments, World, IsSameLane, LaneState, backup_counts, AreWorlds, IsWorld, AreLanes}
use Rattle.std.proofs.lemmas.Option.{get_or_from_slice_get, slice_get-get_or}

-- ---- lists

-- an element that is put at the place it is at already changes nothing
pub set_there : {X : Type 0} (xs : List X) (place : ℕ) (x : X) → slice_get xs place ≡ Some x → slice_set xs place x ≡ xs
set_there xs place x there = ap (slice_set xs place) (sym (get_or_from_slice_get xs place x x there)) ∙ set-get_or xs place x

-- and what is put at a place leaves what is at other places
pub set_beside : {X : Type 0} (xs : List X) (place : ℕ) (x : X) (other : ℕ) → other ≢ place → slice_get (slice_set xs place x) other ≡ slice_get xs other
set_beside [] place x other apart = refl
set_beside (y ∷ ys) zero x zero apart = absurd (apart refl)
set_beside (y ∷ ys) zero x (suc other) apart = refl
set_beside (y ∷ ys) (suc place) x zero apart = refl
set_beside (y ∷ ys) (suc place) x (suc other) apart = set_beside ys place x other (λ same. apart (ap suc same))

-- what is put at a place is there
pub set_here : {X : Type 0} (xs : List X) (place : ℕ) (x : X) → place < length xs → slice_get (slice_set xs place x) place ≡ Some x
set_here xs place x within =
    slice_get-get_or (slice_set xs place x) place x (omega (arith, within, length-set xs place x)) ∙ ap Some (get_or-set_same xs place x x within)

-- what holds of each element holds of the one at a place
pub all_at : {X : Type 0} (Holds : X → Type 0) (xs : List X) (place : ℕ) (x : X) → slice_get xs place ≡ Some x → All Holds xs → Holds x
all_at Holds xs place x there all = subst Holds (get_or_from_slice_get xs place x x there) (all place x (slice_get_within xs place x there))

-- within a list there is an element
pub something_within : {X : Type 0} (xs : List X) (place : ℕ) → place < length xs → (x : X) × (slice_get xs place ≡ Some x)
something_within [] place within = absurd (omega (arith, within))
something_within (x ∷ xs) place within = (get_or (x ∷ xs) place x, slice_get-get_or (x ∷ xs) place x within)

pub there_within : {X : Type 0} (xs : List X) (place : ℕ) (d : X) → place < length xs → slice_get xs place ≡ Some (slice_index_or xs place d)
there_within xs place d within = slice_get-get_or xs place d within

pub there_read : {X : Type 0} (xs : List X) (place : ℕ) (x : X) → place < length xs → x ≡ slice_index_or xs place x → slice_get xs place ≡ Some x
there_read xs place x within read = there_within xs place x within ∙ ap Some (sym read)

-- what is left of a list begins with the next element
pub drop_next : {X : Type 0} (xs : List X) (place : ℕ) (d : X) → place < length xs → drop place xs ≡ slice_index_or xs place d ∷ drop (place + 1) xs
drop_next xs place d within = grind (arith, drop-cons, slice_index_or)

-- ---- worlds

module _ {R : Type 0} (segments : R → Option Segments) where
  pub world_at : (lanes : List (LaneState R)) (worlds : List World) (place : ℕ) (lane : LaneState R) (d : World)
      → AreWorlds segments lanes worlds → slice_get lanes place ≡ Some lane → IsWorld segments lane (slice_index_or worlds place d)
  world_at [] worlds place lane d are there = absurd (cc there)
  world_at (first ∷ lanes) [] place lane d are there = absurd are
  world_at (first ∷ lanes) (w ∷ worlds) zero lane d are there = grind (arith, are.0)
  world_at (first ∷ lanes) (w ∷ worlds) (suc place) lane d are there = world_at lanes worlds place lane d are.1 there

  pub world_set : (lanes : List (LaneState R)) (worlds : List World) (place : ℕ) (lane : LaneState R) (w : World)
      → AreWorlds segments lanes worlds → IsWorld segments lane w → AreWorlds segments (slice_set lanes place lane) (slice_set worlds place w)
  world_set [] [] place lane w are is = tt
  world_set [] (v ∷ worlds) place lane w are is = absurd are
  world_set (first ∷ lanes) [] place lane w are is = absurd are
  world_set (first ∷ lanes) (v ∷ worlds) zero lane w are is = (is, are.1)
  world_set (first ∷ lanes) (v ∷ worlds) (suc place) lane w are is = (are.0, world_set lanes worlds place lane w are.1 is)

  pub same_count : (lanes : List (LaneState R)) (worlds : List World) → AreWorlds segments lanes worlds → length worlds ≡ length lanes
  same_count [] [] are = refl
  same_count [] (v ∷ worlds) are = absurd are
  same_count (first ∷ lanes) [] are = absurd are
  same_count (first ∷ lanes) (v ∷ worlds) are = ap suc (same_count lanes worlds are.1)

-- ---- numbers and masters

module _ {R : Type 0} (masters : ℕ) where
  pub lane_set : (from : ℕ) (lanes : List (LaneState R)) (place : ℕ) (old new : LaneState R) → slice_get lanes place ≡ Some old → IsSameLane old new
      → AreLanes masters from lanes → AreLanes masters from (slice_set lanes place new)
  lane_set from [] place old new there same are = tt
  lane_set from (first ∷ lanes) zero old new there same are = grind (arith, same.number, are.0, same.masters, are.1, are.2)
  lane_set from (first ∷ lanes) (suc place) old new there same are = (are.0, are.1, lane_set (from + 1) lanes place old new there same are.2)

  pub masters_at : (from : ℕ) (lanes : List (LaneState R)) (place : ℕ) (lane : LaneState R) → slice_get lanes place ≡ Some lane
      → AreLanes masters from lanes → lane.masters ≡ masters
  masters_at from [] place lane there are = absurd (cc there)
  masters_at from (first ∷ lanes) zero lane there are = let is : first ≡ lane = cc there in ap (λ (it : LaneState R). it.masters) (sym is) ∙ are.1
  masters_at from (first ∷ lanes) (suc place) lane there are = masters_at (from + 1) lanes place lane there are.2

-- a lane with as many backups in the place of one leaves how many each has
pub counts_set : {R : Type 0} (lanes : List (LaneState R)) (place : ℕ) (old new : LaneState R) → slice_get lanes place ≡ Some old → IsSameLane old new
    → backup_counts (slice_set lanes place new) ≡ backup_counts lanes
counts_set [] place old new there same = refl
counts_set {R = R} (first ∷ lanes) zero old new there same = grind (arith, backup_counts, same.backups)
counts_set (first ∷ lanes) (suc place) old new there same = ap (λ (counts : List ℕ). length first.backups ∷ counts) (counts_set lanes place old new there same)
