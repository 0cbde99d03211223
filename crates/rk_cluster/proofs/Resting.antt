-- Masters of a lane that live, number by number.
use Rattle.rk_cluster.proofs.Words.{◌≡◌, ◌<◌, ◌+◌, ◌==◌, ◌||◌, ◌&&◌, ℕ, zero, suc, Bool, true, false, not, cond, List, [], ◌∷◌, filter}
use Rattle.rk_cluster.proofs.Words.{length, Option, Some, None, IfSome, unwrap_or, slice_get, refl, sym, ap, ◌∙◌, arith, unsigned_tied}
use Rattle.rk_cluster.proofs.Words.{nat_tests, length-map, length-range_with_len, list_all, range_with_len, nat_cmp, eq_by_cmp, NumberMap}
use Rattle.rk_cluster.proofs.Words.{get, numbers, Master, IsFormedWithRoom, World, has_crashed, LaneState, Running, world_with}
use Rattle.rk_world.specs.Master.{new_master, staged}
use Rattle.rk_world.specs.World.{master_at}
use Rattle.rk_cluster.specs.Quiet.{has_applied_all}

-- whether a master has crashed, or has nothing staged
abbrev pub rests : World → ℕ → Bool
rests w master = has_crashed w master || (length (staged (master_at w master)) == 0)

-- masters under numbers that rise from this one on, each found under its own
abbrev pub AreFound : World → ℕ → NumberMap Master → Type 0
AreFound w from masters =
    (place : ℕ) (entry : ℕ × Master) → slice_get masters place ≡ Some entry → (entry.0 ≡ from + place) × (master_at w entry.0 ≡ entry.1)

by_crash : (crashed : Bool) (entry : ℕ × Master) (rest : NumberMap Master)
    → list_all (λ (it : ℕ × Master). length (staged it.1) == 0) (cond (not crashed) (entry ∷ rest) rest)
    ≡ ((crashed || (length (staged entry.1) == 0)) && list_all (λ (it : ℕ × Master). length (staged it.1) == 0) rest)
by_crash true entry rest = refl
by_crash false entry rest = refl

live_rest : (w : World) (from : ℕ) (masters : NumberMap Master) → AreFound w from masters
    → list_all (λ entry. length (staged entry.1) == 0) (filter (λ entry. not (has_crashed w entry.0)) masters) ≡ list_all (rests w) (range_with_len from (length masters))
live_rest w from [] found = refl
live_rest w from (entry ∷ rest) found =
    let first = found 0 entry refl in
    let number : entry.0 ≡ from = first.0 ∙ omega arith in
    let here : (has_crashed w entry.0 || (length (staged entry.1) == 0)) ≡ rests w from =
    ap (λ (master : Master). has_crashed w entry.0 || (length (staged master) == 0)) (sym first.1) ∙ ap (rests w) number in
    let later = live_rest w (from + 1) rest (λ place other there. let it = found (suc place) other there in (it.0 ∙ omega arith, it.1)) in
    by_crash (has_crashed w entry.0) entry (filter (λ (it : ℕ × Master). not (has_crashed w it.0)) rest) ∙ (λ i. here i && later i)

itself : (number : ℕ) → eq_by_cmp nat_cmp number number ≡ true
itself number = unsigned_tied number number ∙ grind (arith, nat_tests)

later_apart : (number other : ℕ) → other < number → eq_by_cmp nat_cmp number other ≡ false
later_apart number other less = unsigned_tied number other ∙ grind (arith, nat_tests, less)

-- under numbers that rise each is found under its own
numbered : {X : Type 0} (from count : ℕ) (things : NumberMap X) → numbers things ≡ range_with_len from count
    → (place : ℕ) (entry : ℕ × X) → slice_get things place ≡ Some entry → (entry.0 ≡ from + place) × (get things entry.0 ≡ Some entry.1)
numbered from count [] is place entry there = absurd (cc there)
numbered from zero (first ∷ rest) is place entry there = absurd (cc is)
numbered {X = X} from (suc count) (first ∷ rest) is zero entry there = grind (arith, itself, first.0, first.1)
numbered from (suc count) (first ∷ rest) is (suc place) entry there =
    let number : first.0 ≡ from = cc is in
    let tail : numbers rest ≡ range_with_len (from + 1) count = cc is in
    let it = numbered (from + 1) count rest tail place entry there in (
      it.0 ∙ omega arith,
      ap (λ (test : Bool). cond test (Some first.1) (get rest entry.0)) (later_apart entry.0 first.0 (omega (arith, it.0, number))) ∙ it.1,
    )

-- nothing is staged at the masters that live if each master has crashed or has nothing staged
pub applied_all : (w : World) (count : ℕ) → numbers w.masters ≡ range_with_len 1 count → has_applied_all w ≡ list_all (rests w) (range_with_len 1 count)
applied_all w count is =
    let found : AreFound w 1 w.masters =
    λ place entry there.
    let it = numbered 1 count w.masters is place entry there in
    (it.0, ap (λ (o : Option Master). unwrap_or o (new_master entry.0 [])) it.1) in
    let many : length w.masters ≡ count =
    sym (length-map w.masters (λ (entry : ℕ × Master). entry.0)) ∙ ap (λ (list : List ℕ). length list) is ∙ length-range_with_len 1 count in
    live_rest w 1 w.masters found ∙ ap (λ (n : ℕ). list_all (rests w) (range_with_len 1 n)) many

-- ---- in a lane

module _ {R : Type 0} (lane : LaneState R) (masters : ℕ) (many : lane.masters ≡ masters) where
  -- that each master of the lane rests says that nothing is staged at those that live
  pub applied_told : (told : Bool) (running : Option Running) → IfSome running (λ it. IsFormedWithRoom (world_with lane it [])) → IfSome running (λ it. it.coordinator.masters ≡ lane.masters)
      → IfSome running (λ it. told ≡ list_all (rests (world_with lane it [])) (range_with_len 1 masters)) → IfSome running (λ it. told ≡ has_applied_all (world_with lane it []))
  applied_told told running formed counted known = grind (arith, world_with, applied_all)

  -- a master rests, as its own test says
  pub rests_told : (told : Bool) (master : ℕ) (running : Option Running) → IfSome running (λ it. told ≡ (has_crashed (world_with lane it []) master
      || (length (staged (master_at (world_with lane it []) master)) == 0))) → (number : ℕ) → number ≡ master
      → IfSome running (λ it. told ≡ rests (world_with lane it []) number)
  rests_told told master None known number is = tt
  rests_told told master (Some running) known number is = known ∙ ap (rests (world_with lane running [])) (sym is)
