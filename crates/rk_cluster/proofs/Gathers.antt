-- Things that are gathered from eight lanes in turn.
use Rattle.rk_cluster.proofs.Words.{◌≡◌, ◌%◌, ◌*◌, ◌<◌, ◌≤◌, ◌+◌, ℕ, zero, suc, min, List, [], ◌∷◌, ◌++◌, All, drop, Some, length, map}
use Rattle.rk_cluster.proofs.Words.{take, slice_get, slice_set, refl, sym, ap, subst, ◌∙◌, ⊎_elim, arith, length-append, append_assoc}
use Rattle.rk_cluster.proofs.Words.{append-nil, length-set, cases_eq, length-map, nil_from_length, All-cons, All-head, All-nil, All-tail}
use Rattle.rk_cluster.proofs.Words.{slice_get_within, Vec, LANES, LaneState, replicas_of, AreDealt, IsEighth, HasBackups}
use Rattle.rk_cluster.proofs.Eighths.{each_eighth, eighth_apart, eighth_count, eighth_here, eighth_is, eighth_many}
use Rattle.rk_cluster.proofs.Worlds.{all_at, set_beside, set_here, something_within}

-- a hand has so many things
abbrev pub HasSoMany : {X : Type 0} → ℕ → Vec X → Type 0
HasSoMany count hand = length hand.items ≡ count

-- of so many things of each lane these were gathered, and those of each lane are left that were not
pub record IsGathered {X : Type 0} (all hands : List (Vec X)) (things : List X) (count place : ℕ) : Type 0 where
  pub taken : length things ≡ min place (LANES * count)
  pub each : (lane : ℕ) (before hand : Vec X) → slice_get all lane ≡ Some before → slice_get hands lane ≡ Some hand → each_eighth lane things ++ hand.items ≡ before.items

pub record IsGathering {X : Type 0} (all hands : List (Vec X)) (things : List X) (place : ℕ) : Type 0 where
  pub eight : length hands ≡ LANES
  pub gathered : (count : ℕ) → All (HasSoMany count) all → IsGathered all hands things count place

module _ {X : Type 0} (all hands : List (Vec X)) (things : List X) (place : ℕ) (hand : Vec X) (eight_all : length all ≡ LANES) (gathering : IsGathering all hands things place)
    (there : slice_get hands (place % LANES) ≡ Some hand) where
  its : (before : Vec X) × (slice_get all (place % LANES) ≡ Some before)
  its = something_within all (place % LANES) (omega (arith, eight_all))

  -- how many were taken of this lane
  its_length : (count : ℕ) → All (HasSoMany count) all → length (each_eighth (place % LANES) things) + length hand.items ≡ count
  its_length count equal =
      sym (length-append (each_eighth (place % LANES) things) hand.items)
      ∙ ap (λ (list : List X). length list) ((gathering.gathered count equal).each (place % LANES) its.0 hand its.1 there)
      ∙ all_at (HasSoMany count) all (place % LANES) its.0 its.1 equal

  -- what is written in its place
  its_now : (now : Vec X) → slice_get (slice_set hands (place % LANES) now) (place % LANES) ≡ Some now
  its_now now = set_here hands (place % LANES) now (omega (arith, gathering.eight))

  -- nothing is left of the lane: then nothing is left of any
  past : (now : Vec X) → hand.items ≡ [] → now.items ≡ [] → (count : ℕ) → All (HasSoMany count) all → IsGathered all (slice_set hands (place % LANES) now) things count (place + 1)
  past now none same count equal =
      let before = gathering.gathered count equal in
      record {
        taken = omega (arith, before.taken, its_length count equal, ap (λ (list : List X). length list) none, eighth_count things (place % LANES) (omega arith));
        each = λ lane was is stood stands.
            ⊎_elim
            (λ (here : lane ≡ place % LANES).
            let written : Some now ≡ Some is = sym (its_now now) ∙ ap (slice_get (slice_set hands (place % LANES) now)) (sym here) ∙ stands in
            let same_hand : now ≡ is = cc written in
            ap (λ (items : List X). each_eighth lane things ++ items) (ap (λ (it : Vec X). it.items) (sym same_hand) ∙ same ∙ sym none)
            ∙ before.each lane was hand stood (ap (slice_get hands) here ∙ there))
            (λ (apart : lane ≡ place % LANES → ⊥). before.each lane was is stood (sym (set_beside hands (place % LANES) now lane apart) ∙ stands))
            (cases_eq lane (place % LANES));
      }

  -- the first of what is left of the lane is next
  first_next : (x : X) (rest : List X) (now : Vec X) → hand.items ≡ x ∷ rest → now.items ≡ rest → (count : ℕ) → All (HasSoMany count) all
      → IsGathered all (slice_set hands (place % LANES) now) (things ++ x ∷ []) count (place + 1)
  first_next x rest now first left count equal =
      let before = gathering.gathered count equal in
      let some : length hand.items ≡ suc (length rest) = ap (λ (list : List X). length list) first in
      let many = eighth_many things (place % LANES) (omega arith) in
      let within : place < LANES * count = omega (arith, before.taken, its_length count equal, some, many) in
      let at : length things % LANES ≡ place % LANES = omega (arith, before.taken, within) in
      record {
        taken = omega (arith, before.taken, within, length-append things (x ∷ []));
        each = λ lane was is stood stands.
            ⊎_elim
            (λ (here : lane ≡ place % LANES).
            let written : Some now ≡ Some is = sym (its_now now) ∙ ap (slice_get (slice_set hands (place % LANES) now)) (sym here) ∙ stands in
            let same_hand : now ≡ is = cc written in
            (λ i. eighth_here things x lane (omega (arith, here)) (at ∙ sym here) i ++ (ap (λ (it : Vec X). it.items) (sym same_hand) ∙ left) i)
            ∙ append_assoc (each_eighth lane things) (x ∷ []) rest
            ∙ ap (λ (items : List X). each_eighth lane things ++ items) (sym first)
            ∙ before.each lane was hand stood (ap (slice_get hands) here ∙ there))
            (λ (apart : lane ≡ place % LANES → ⊥).
            let stood_there : slice_get hands lane ≡ Some is = sym (set_beside hands (place % LANES) now lane apart) ∙ stands in
            ap (λ (items : List X). items ++ is.items)
            (eighth_apart things x lane (omega (arith, slice_get_within hands lane is stood_there, gathering.eight)) (λ same. apart (sym same ∙ at)))
            ∙ before.each lane was is stood stood_there)
            (cases_eq lane (place % LANES));
      }

  by_hand : (items : List X) (now : Vec X) → hand.items ≡ items → now.items ≡ drop 1 items → (count : ℕ) → All (HasSoMany count) all
      → IsGathered all (slice_set hands (place % LANES) now) (things ++ take 1 items) count (place + 1)
  by_hand [] now is left count equal = search (slice_set, append-nil, past)
  by_hand (x ∷ rest) now is left count equal = first_next x rest now is left count equal

  pub gathering_one : (now : Vec X) (next : List X) → now.items ≡ drop 1 hand.items → next ≡ things ++ take 1 hand.items
      → IsGathering all (slice_set hands (place % LANES) now) next (place + 1)
  gathering_one now next left passed =
      subst (λ (list : List X). IsGathering all (slice_set hands (place % LANES) now) list (place + 1)) (sym passed)
      (record {
        eight = length-set hands (place % LANES) now ∙ gathering.eight;
        gathered = by_hand hand.items now refl left;
      })

-- all are gathered
pub gathering_all : {X : Type 0} (all hands : List (Vec X)) (things : List X) (place most : ℕ) → length all ≡ LANES → LANES * most ≤ place → IsGathering all hands things place
    → (count : ℕ) → count ≤ most → All (HasSoMany count) all → AreDealt things all
gathering_all all hands things place most eight past gathering count few equal = record {
  count = eight;
  each = λ lane before there.
      let it = gathering.gathered count equal in
      let within : lane < LANES = omega (arith, slice_get_within all lane before there, eight) in
      let stands = something_within hands lane (omega (arith, within, gathering.eight)) in
      let both = it.each lane before stands.0 there stands.1 in
      let many = eighth_many things lane within in
      let none : length stands.0.items ≡ 0 =
      omega (arith, many, it.taken, past, few, within, all_at (HasSoMany count) all lane before there equal, length-append (each_eighth lane things) stands.0.items, ap (λ list. length list) both) in
      let whole : each_eighth lane things ≡ before.items =
      sym (append-nil (each_eighth lane things)) ∙ ap (λ items. each_eighth lane things ++ items) (sym (nil_from_length stands.0.items none)) ∙ both in
      λ at. ap (λ items. slice_get items at) (sym whole) ∙ eighth_is things lane within at;
}

-- as many as all have together
pub gathering_count : {X : Type 0} (all hands : List (Vec X)) (things : List X) (place most : ℕ) → LANES * most ≤ place → IsGathering all hands things place
    → (count : ℕ) → count ≤ most → All (HasSoMany count) all → length things ≡ LANES * count
gathering_count all hands things place most past gathering count few equal = omega (arith, (gathering.gathered count equal).taken, past, few)

-- ---- replicas of lanes

module _ {R : Type 0} where
  -- these hands have the replicas of these lanes
  abbrev pub AreOfLanes : List (Vec R) → List (LaneState R) → Type 0
  AreOfLanes hands lanes = map (λ (hand : Vec R). hand.items) hands ≡ map (λ (lane : LaneState R). replicas_of lane.backups) lanes

  pub hands_many : (count : ℕ) (hands : List (Vec R)) (lanes : List (LaneState R)) → AreOfLanes hands lanes → All (HasBackups count) lanes
      → All (HasSoMany count) hands
  hands_many count [] lanes same many = All-nil (HasSoMany count)
  hands_many count (hand ∷ hands) [] same many = absurd (cc same)
  hands_many count (hand ∷ hands) (lane ∷ lanes) same many =
      let its : hand.items ≡ replicas_of lane.backups = cc same in
      let rest : AreOfLanes hands lanes = cc same in
      let backups : length (replicas_of lane.backups) ≡ length lane.backups = length-map lane.backups _ in
      All-cons (HasSoMany count) hand hands
      (ap (λ (list : List R). length list) its ∙ backups ∙ All-head (HasBackups count) lane lanes many)
      (hands_many count hands lanes rest (All-tail (HasBackups count) lane lanes many))

  -- what was gathered of them
  by_lane : (at : ℕ → List R → Type 0) (hands : List (Vec R)) (lanes : List (LaneState R)) (place : ℕ) (lane : LaneState R) → AreOfLanes hands lanes
      → slice_get lanes place ≡ Some lane → ((hand : Vec R) → slice_get hands place ≡ Some hand → at place hand.items) → at place (replicas_of lane.backups)
  by_lane at hands [] place lane same there each = absurd (cc there)
  by_lane at [] (first ∷ lanes) place lane same there each = absurd (cc same)
  by_lane at (hand ∷ hands) (first ∷ lanes) zero lane same there each = grind (arith, its, replicas_of, hand.items, first.backups)
  by_lane at (hand ∷ hands) (first ∷ lanes) (suc place) lane same there each =
      let rest : AreOfLanes hands lanes = cc same in
      by_lane (λ (n : ℕ). at (suc n)) hands lanes place lane rest there each

  pub gathered_of : (hands : List (Vec R)) (lanes : List (LaneState R)) (things : List R) → AreOfLanes hands lanes → AreDealt things hands
      → (number : ℕ) (lane : LaneState R) → slice_get lanes number ≡ Some lane → IsEighth things number (replicas_of lane.backups)
  gathered_of hands lanes things same dealt number lane there = by_lane (IsEighth things) hands lanes number lane same there (dealt.each number)
