-- How replicas are dealt to the lanes of a new cluster, and how these are made.
use Rattle.rk_cluster.proofs.Words.{◌≡◌, ◌≤◌, ◌<◌, ◌+◌, ◌*◌, ℕ, zero, suc, List, [], ◌∷◌, ◌++◌, All, length, map, slice_get, Option, None}
use Rattle.rk_cluster.proofs.Words.{Some, IfSome, is_some, refl, sym, ap, subst, ◌∙◌, arith, length-append, append_assoc, range_with_len}
use Rattle.rk_cluster.proofs.Words.{All-cons, All-head, All-nil, All-tail, slice_get_past, slice_get_within, Vec, length-map, LANES}
use Rattle.rk_cluster.proofs.Words.{Segments, Cluster, new_cluster, World, new_world, AreTold, LaneState, replicas_of, world_with, AreDealt}
use Rattle.rk_cluster.proofs.Words.{IsEighth, HasBackups, AreWorlds, ClusterState, IsOf, IsWorld, AreLanes, state_of}
use Rattle.std.specs.Prelude.{true}
use Rattle.rk_log.specs.declared.copied.TheConstants.{MOST_BACKUPS}
use Rattle.rk_world.specs.Backup.{no_segments}
use Rattle.rk_world.specs.World.{new_backups}
use Rattle.rk_cluster.specs.Fresh.{AreEmpty, AreMadeOf, IsHand, IsMadeOf, IsNewLane}
use Rattle.rk_inv_tablets.proofs.steady.Lanes.{tell_new}
use Rattle.rk_cluster.proofs.Worlds.{all_at, something_within}

-- ---- hands

-- a list is as long as the places that have an element
places_count : {X : Type 0} (xs : List X) (count : ℕ) → ((place : ℕ) → place < count → slice_get xs place ≡ None → ⊥) → slice_get xs count ≡ None → length xs ≡ count
places_count [] zero some none = refl
places_count [] (suc count) some none = absurd (some 0 (omega arith) refl)
places_count (x ∷ xs) zero some none = absurd (cc none)
places_count (x ∷ xs) (suc count) some none = ap suc (places_count xs count (λ place within. some (suc place) (omega (arith, within))) none)

nothing_within : {X : Type 0} (xs : List X) (place : ℕ) → place < length xs → slice_get xs place ≡ None → ⊥
nothing_within [] place within none = absurd (omega (arith, within))
nothing_within (x ∷ xs) zero within none = absurd (cc none)
nothing_within (x ∷ xs) (suc place) within none = nothing_within xs place (omega (arith, within)) none

-- each lane gets its share
pub eighth_length : {X : Type 0} (things its : List X) (lane count : ℕ) → lane < LANES → length things ≡ LANES * count → IsEighth things lane its → length its ≡ count
eighth_length things its lane count within many is =
    places_count its count
    (λ place less none. nothing_within things (8 * place + lane) (omega (arith, within, many, less)) (sym (is place) ∙ none))
    (is count ∙ slice_get_past things (8 * count + lane) (omega (arith, many)))

-- what holds of the element at each place holds of all
all_places : {X : Type 0} (Holds : X → Type 0) (xs : List X) → ((place : ℕ) (x : X) → slice_get xs place ≡ Some x → Holds x) → All Holds xs
all_places Holds [] holds = All-nil Holds
all_places Holds (x ∷ xs) holds = All-cons Holds x xs (holds 0 x refl) (all_places Holds xs (λ place. holds (suc place)))

pub eighth_all : {X : Type 0} (Holds : X → Type 0) (things its : List X) (lane : ℕ) → IsEighth things lane its → All Holds things → All Holds its
eighth_all Holds things its lane is all = all_places Holds its (λ place x there. all_at Holds things (8 * place + lane) x (sym (is place) ∙ there) all)

-- each lane gets as many as it may have
pub hands_fit : {X : Type 0} (things : List X) (hands : List (Vec X)) (count : ℕ) → length things ≡ LANES * count → 1 ≤ count → count ≤ MOST_BACKUPS → AreDealt things hands
    → All IsHand hands
hands_fit {X = X} things hands count many some few dealt =
    all_places IsHand hands
    (λ lane hand there.
    let its : length hand.items ≡ count =
    eighth_length things hand.items lane count (omega (arith, slice_get_within hands lane hand there, dealt.count)) many (dealt.each lane hand there) in
    let hand_is : IsHand hand = record { some = omega (arith, its, some); few = omega (arith, its, few) } in
    hand_is)

module _ {R : Type 0} (segments : R → Option Segments) (masters : ℕ) where
  -- ---- one lane after the other

  made_one : (number : ℕ) (hands : List (Vec R)) (lanes : List (LaneState R)) (hand : Vec R) (lane : LaneState R)
      → AreMadeOf segments masters number hands lanes → IsMadeOf segments masters (number + length hands) hand.items lane
      → AreMadeOf segments masters number (hands ++ hand ∷ []) (lanes ++ lane ∷ [])
  made_one number [] [] hand lane are is = (subst (λ (n : ℕ). IsMadeOf segments masters n hand.items lane) (omega arith) is, tt)
  made_one number [] (first ∷ lanes) hand lane are is = absurd are
  made_one number (one ∷ hands) [] hand lane are is = absurd are
  made_one number (one ∷ hands) (first ∷ lanes) hand lane are is = (
    are.0,
    made_one (number + 1) hands lanes hand lane are.1 (subst (λ (n : ℕ). IsMadeOf segments masters n hand.items lane) (omega arith) is),
  )

  -- lanes were made of so many hands, and these are left
  pub record IsMaking (all made left : List (Vec R)) (lanes : List (LaneState R)) (number : ℕ) : Type 0 where
    pub whole : made ++ left ≡ all
    pub next : number ≡ length made
    pub lanes_are : AreMadeOf segments masters 0 made lanes

  pub making_one : (all made left rest : List (Vec R)) (lanes : List (LaneState R)) (number : ℕ) (hand : Vec R) (lane : LaneState R) → left ≡ hand ∷ rest
      → IsMadeOf segments masters number hand.items lane → IsMaking all made left lanes number → IsMaking all (made ++ hand ∷ []) rest (lanes ++ lane ∷ []) (number + 1)
  making_one all made left rest lanes number hand lane first is making = grind (arith, append_assoc, length-append, made_one)

  -- ---- what was made

  pub made_at : (from : ℕ) (hands : List (Vec R)) (lanes : List (LaneState R)) (place : ℕ) (hand : Vec R) (lane : LaneState R) → slice_get hands place ≡ Some hand
      → slice_get lanes place ≡ Some lane → AreMadeOf segments masters from hands lanes → IsMadeOf segments masters (from + place) hand.items lane
  made_at from [] lanes place hand lane here there are = absurd (cc here)
  made_at from (one ∷ hands) [] place hand lane here there are = absurd are
  made_at from (one ∷ hands) (first ∷ lanes) zero hand lane here there are = grind (arith, hand.items, one.items, are.0)
  made_at from (one ∷ hands) (first ∷ lanes) (suc place) hand lane here there are =
      grind (arith, hand.items, are.1, (made_at (from + 1) hands lanes place hand lane here there are.1))

  pub made_count : (from : ℕ) (hands : List (Vec R)) (lanes : List (LaneState R)) → AreMadeOf segments masters from hands lanes → length lanes ≡ length hands
  made_count from [] [] are = refl
  made_count from [] (first ∷ lanes) are = absurd are
  made_count from (one ∷ hands) [] are = absurd are
  made_count from (one ∷ hands) (first ∷ lanes) are = ap suc (made_count (from + 1) hands lanes are.1)

  pub made_lanes : (from : ℕ) (hands : List (Vec R)) (lanes : List (LaneState R)) → AreMadeOf segments masters from hands lanes → AreLanes masters from lanes
  made_lanes from [] [] are = tt
  made_lanes from [] (first ∷ lanes) are = absurd are
  made_lanes from (one ∷ hands) [] are = absurd are
  made_lanes from (one ∷ hands) (first ∷ lanes) are = (are.0.new.number_is, are.0.new.masters_are, made_lanes (from + 1) hands lanes are.1)

  -- if the replicas report that nothing was written, a lane represents the new world
  made_world : (number backups : ℕ) (replicas : List R) (lane : LaneState R) → length replicas ≡ backups → AreEmpty segments replicas → IsMadeOf segments masters number replicas lane
      → IsWorld segments lane (new_world number masters backups)
  made_world number backups replicas lane many empty made =
      subst (λ (count : ℕ). IsWorld segments lane (new_world number masters count)) many
      (record {
        running = made.new.running;
        runs = made.new.runs;
        stored = new_backups (length replicas);
        told = made.told empty;
        is = ap (λ (w : World). record w { backups = new_backups (length replicas) }) (sym made.new.world);
        all = tell_new number masters (length replicas);
      })

  pub made_worlds : (backups from : ℕ) (hands : List (Vec R)) (lanes : List (LaneState R)) → All (λ (hand : Vec R). length hand.items ≡ backups) hands
      → All (λ (hand : Vec R). AreEmpty segments hand.items) hands → AreMadeOf segments masters from hands lanes
      → AreWorlds segments lanes (map (λ number. new_world number masters backups) (range_with_len from (length hands)))
  made_worlds backups from [] [] many empty are = tt
  made_worlds backups from [] (first ∷ lanes) many empty are = absurd are
  made_worlds backups from (one ∷ hands) [] many empty are = absurd are
  made_worlds backups from (one ∷ hands) (first ∷ lanes) many empty are = (
    made_world from backups one.items first (All-head (λ (hand : Vec R). length hand.items ≡ backups) one hands many) (All-head (λ (hand : Vec R). AreEmpty segments hand.items) one hands empty) are.0,
    made_worlds backups (from + 1) hands lanes (All-tail (λ (hand : Vec R). length hand.items ≡ backups) one hands many) (All-tail (λ (hand : Vec R). AreEmpty segments hand.items) one hands empty) are.1,
  )

  -- a cluster of lanes that were made of what was dealt is the new one, if the replicas report that nothing was written
  pub made_cluster : (backups : ℕ) (replicas : List R) (hands : List (Vec R)) (lanes : List (LaneState R)) → length replicas ≡ LANES * backups → AreDealt replicas hands
      → AreMadeOf segments masters 0 hands lanes → AreEmpty segments replicas → IsOf segments (state_of lanes []) (new_cluster masters backups)
  made_cluster backups replicas hands lanes many dealt are empty =
      let each : (lane : ℕ) (hand : Vec R) → slice_get hands lane ≡ Some hand → (length hand.items ≡ backups) × AreEmpty segments hand.items =
      λ lane hand there. (
        eighth_length replicas hand.items lane backups (omega (arith, slice_get_within hands lane hand there, dealt.count)) many (dealt.each lane hand there),
        eighth_all (λ replica. segments replica ≡ Some no_segments) replicas hand.items lane (dealt.each lane hand there) empty,
      ) in
      record {
        lanes =
            subst (λ (count : ℕ). AreWorlds segments lanes (map (λ number. new_world number masters backups) (range_with_len 0 count))) dealt.count
            (made_worlds backups 0 hands lanes (all_places (λ (hand : Vec R). length hand.items ≡ backups) hands (λ lane hand there. (each lane hand there).0))
            (all_places (λ (hand : Vec R). AreEmpty segments hand.items) hands (λ lane hand there. (each lane hand there).1)) are);
        sessions = refl;
      }

  -- each lane is new, and has its share of the replicas
  pub made_here : (backups : ℕ) (replicas : List R) (hands : List (Vec R)) (lanes : List (LaneState R)) (number : ℕ) (lane : LaneState R) → length replicas ≡ LANES * backups
      → AreDealt replicas hands → AreMadeOf segments masters 0 hands lanes → slice_get lanes number ≡ Some lane
      → IsNewLane masters backups number lane × IsEighth replicas number (replicas_of lane.backups)
  made_here backups replicas hands lanes number lane many dealt are there =
      let within : number < length hands = omega (arith, slice_get_within lanes number lane there, made_count 0 hands lanes are) in
      let stands = something_within hands number within in
      let hand = stands.0 in
      let here = stands.1 in
      let it = made_at 0 hands lanes number hand lane here there are in
      let share = dealt.each number hand here in
      let count = eighth_length replicas hand.items number backups (omega (arith, within, dealt.count)) many share in (
        subst (λ (n : ℕ). IsNewLane masters backups n lane) (omega arith) (subst (λ (n : ℕ). IsNewLane masters n (0 + number) lane) count it.new),
        λ place. ap (λ (list : List R). slice_get list place) it.replicas_are ∙ share place,
      )

  -- and as many backups as the others
  pub made_backed : (backups : ℕ) (replicas : List R) (hands : List (Vec R)) (lanes : List (LaneState R)) → length replicas ≡ LANES * backups → AreDealt replicas hands
      → AreMadeOf segments masters 0 hands lanes → All (HasBackups backups) lanes
  made_backed backups replicas hands lanes many dealt are =
      all_places (HasBackups backups) lanes (λ number lane there. (made_here backups replicas hands lanes number lane many dealt are there).0.backups_are)

-- ---- one lane

pub one_made : {R : Type 0} (segments : R → Option Segments) (masters number : ℕ) (replicas : List R) (lane : LaneState R) → is_some lane.running ≡ true → lane.number ≡ number
    → lane.masters ≡ masters → replicas_of lane.backups ≡ replicas
    → IfSome lane.running (λ it. world_with lane it [] ≡ record (new_world number masters (length replicas)) { backups = [] })
    → (AreEmpty segments replicas → AreTold segments lane.backups (new_backups (length replicas))) → IsMadeOf segments masters number replicas lane
one_made {R = R} segments masters number replicas lane runs number_is masters_are replicas_are world told =
    grind (arith, replicas_of, length-map)

-- a cluster with lanes and without sessions is that of its lanes
pub of_parts : {R : Type 0} (segments : R → Option Segments) (state : ClusterState R) (lanes : List (LaneState R)) (cluster : Cluster) → state.lanes ≡ lanes → state.sessions ≡ []
    → IsOf segments (state_of lanes []) cluster → IsOf segments state cluster
of_parts {R = R} segments state lanes cluster its none is = grind arith
