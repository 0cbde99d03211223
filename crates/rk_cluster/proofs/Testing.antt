-- Tests of lanes, and of the worlds that they stand for.
use Rattle.rk_cluster.proofs.Words.{arith, ◌≡◌, ◌≤◌, ◌<◌, ◌+◌, ℕ, zero, suc, Bool, true, false, ◌&&◌, List, [], ◌∷◌, All, length, take}
use Rattle.rk_cluster.proofs.Words.{slice_get, slice_index_or, Option, None, Some, IfSome, refl, sym, ap, subst, ◌∙◌, list_all, take_all}
use Rattle.rk_cluster.proofs.Words.{All-head, All-tail, list_all_at, list_all_more, NumberMap, Segments, World, LaneState, Running}
use Rattle.rk_cluster.proofs.Words.{world_with, AreWorlds, IsWorld, HoldsIn, TellsOf}

-- ---- lanes

module _ {R : Type 0} (test : World → Bool) where
  -- what is reported to hold does
  pub holds_there : (lane : LaneState R) (told : Bool) → TellsOf test lane told → told ≡ true → HoldsIn test lane
  holds_there lane told known is = grind (arith, world_with, lane.running)

module _ {R : Type 0} (segments : R → Option Segments) (test : World → Bool)
    (blind : (lane : LaneState R) (running : Running) (stored : NumberMap Segments) → test (world_with lane running stored) ≡ test (world_with lane running [])) where
  -- in the world of a lane it holds as well
  test_there : (lane : LaneState R) (w : World) → (is : IsWorld segments lane w) → test w ≡ test (world_with lane is.running [])
  test_there lane w is = ap test is.is ∙ blind lane is.running is.stored

  pub all_hold : (lanes : List (LaneState R)) (worlds : List World) → AreWorlds segments lanes worlds → All (HoldsIn test) lanes → list_all test worlds ≡ true
  all_hold [] [] are all = refl
  all_hold [] (w ∷ worlds) are all = absurd are
  all_hold (lane ∷ lanes) [] are all = absurd are
  all_hold (lane ∷ lanes) (w ∷ worlds) are all =
      let here : test w ≡ true = test_there lane w are.0 ∙ All-head (HoldsIn test) lane lanes all are.0.running are.0.runs in
      let rest = all_hold lanes worlds are.1 (All-tail (HoldsIn test) lane lanes all) in
      λ i. here i && rest i

  fails_there : (lane : LaneState R) (w : World) → TellsOf test lane false → IsWorld segments lane w → test w ≡ false
  fails_there lane w told is =
      test_there lane w is ∙ sym (subst (λ (o : Option Running). IfSome o (λ it. false ≡ test (world_with lane it []))) is.runs told)

  fails_behind : (first rest : Bool) → rest ≡ false → (first && rest) ≡ false
  fails_behind true rest is = is
  fails_behind false rest is = refl

  -- a lane in which it does not hold settles it
  pub one_fails : (lanes : List (LaneState R)) (worlds : List World) (place : ℕ) (lane : LaneState R) → slice_get lanes place ≡ Some lane → TellsOf test lane false
      → AreWorlds segments lanes worlds → list_all test worlds ≡ false
  one_fails [] worlds place lane there told are = absurd (cc there)
  one_fails (first ∷ lanes) [] place lane there told are = absurd are
  one_fails (first ∷ lanes) (w ∷ worlds) zero lane there told are = grind (arith, fails_there, are.0)
  one_fails (first ∷ lanes) (w ∷ worlds) (suc place) lane there told are =
      fails_behind (test w) (list_all test worlds) (one_fails lanes worlds place lane there told are.1)

-- ---- lists within one lane

module _ {X : Type 0} (test : Running → X → Bool) (xs : List X) (index : ℕ) where
  -- so far it holds of each
  abbrev pub HoldsSoFar : Option Running → Type 0
  HoldsSoFar running = IfSome running (λ it. list_all (test it) (take index xs) ≡ true)

  pub holds_more : (running : Option Running) (d : X) (told : Bool) → index < length xs → HoldsSoFar running → IfSome running (λ it. told ≡ test it (slice_index_or xs index d))
      → told ≡ true → IfSome running (λ it. list_all (test it) (take (index + 1) xs) ≡ true)
  holds_more running d told within before known is = grind (arith, list_all_more)

  -- one of which it does not hold settles it
  pub holds_not : (running : Option Running) (d : X) (told : Bool) → index < length xs → IfSome running (λ it. told ≡ test it (slice_index_or xs index d)) → told ≡ false
      → IfSome running (λ it. false ≡ list_all (test it) xs)
  holds_not None d told within known is = tt
  holds_not (Some running) d told within known is = sym (list_all_at (test running) xs index d within (sym known ∙ is))

  pub holds_of_all : (running : Option Running) → length xs ≤ index → HoldsSoFar running → IfSome running (λ it. true ≡ list_all (test it) xs)
  holds_of_all None past before = tt
  holds_of_all (Some running) past before = sym (ap (list_all (test running)) (sym (take_all index xs past)) ∙ before)

-- what was found of one list holds of an equal one
pub told_of : {X : Type 0} (test : Running → X → Bool) (xs : List X) (ys : Running → List X) (told : Bool) (running : Option Running)
    → IfSome running (λ it. told ≡ list_all (test it) xs) → IfSome running (λ it. xs ≡ ys it) → IfSome running (λ it. told ≡ list_all (test it) (ys it))
told_of test xs ys told None known same = tt
told_of test xs ys told (Some running) known same = known ∙ ap (list_all (test running)) same
