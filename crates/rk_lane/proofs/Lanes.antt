-- Lanes that may be spent, and their backups.
use Rattle.rk_lane.proofs.Words.{◌≡◌, ◌≤◌, ◌+◌, ℕ, zero, suc, Bool, true, false, cond, if◌then◌else◌, List, [], ◌∷◌, ◌++◌, length, map}
use Rattle.rk_lane.proofs.Words.{slice_get, Option, None, Some, IfSome, All, refl, sym, ap, subst, ◌∙◌, append_assoc, append-nil, arith}
use Rattle.rk_lane.proofs.Words.{⊎_elim, range_with_len, length-append, cases_eq, eq-eqb, ne_eqb, All-head, All-tail, unsigned_tied, get}
use Rattle.rk_lane.proofs.Words.{Segments, number_of, replica_of, BackupLane, no_segments, AreNumbered, AreTold}
use Rattle.std.proofs.lemmas.List.{map-append}
use Rattle.rk_lane.specs.LaneState.{replicas_of}

-- what holds if a lane is not spent
pub unless_spent : {X : Type 0} (P : X → Type 0) (spent : Bool) (x : X) → (spent ≡ false → P x) → IfSome (if spent then None else Some x) P
unless_spent P true x gives = tt
unless_spent P false x gives = gives refl

-- ---- backups are made of replicas

-- an element of a list with one more behind it is in the list, or is that one
record StandsLast {X : Type 0} (xs : List X) (y : X) (place : ℕ) (x : X) : Type 0 where
  last : place ≡ length xs
  is : y ≡ x

at_last : {X : Type 0} (P : Type 0) (xs : List X) (y x : X) (place : ℕ) → slice_get (xs ++ y ∷ []) place ≡ Some x
    → (slice_get xs place ≡ Some x → P) → (StandsLast xs y place x → P) → P
at_last P [] y x zero there before last = last (record { last = refl; is = cc there })
at_last P [] y x (suc place) there before last = absurd (cc there)
at_last P (first ∷ rest) y x zero there before last = before there
at_last P (first ∷ rest) y x (suc place) there before last =
    at_last P rest y x place there before (λ it. last (record { last = ap suc it.last; is = it.is }))

numbered_push : {R : Type 0} (made : List (BackupLane R)) (backup : BackupLane R) → AreNumbered made → number_of backup ≡ length made + 1
    → AreNumbered (made ++ backup ∷ [])
numbered_push {R} made backup numbered is place other there =
    at_last (number_of other ≡ place + 1) made backup other place there (numbered place other)
    (λ it. ap number_of (sym it.is) ∙ is ∙ ap (λ (n : ℕ). n + 1) (sym it.last))

-- backups that were made of these replicas, of which these are left
pub record IsNumbering {R : Type 0} (all left : List R) (made : List (BackupLane R)) (room number : ℕ) : Type 0 where
  pub numbered : AreNumbered made
  pub parts : replicas_of made ++ left ≡ all
  pub fits : length made + length left ≤ room
  pub number_is : number ≡ length made + 1

pub none_numbered : {R : Type 0} (all : List R) (made : List (BackupLane R)) (room : ℕ) → made ≡ [] → length all ≤ room → IsNumbering all all made room 1
none_numbered {R} all made room none fits = grind arith

-- one more is made
pub one_numbered : {R : Type 0} (all left rest : List R) (made now : List (BackupLane R)) (backup : BackupLane R) (replica : R) (room number next : ℕ)
    → left ≡ replica ∷ rest → now ≡ made ++ backup ∷ [] → number_of backup ≡ number → replica_of backup ≡ replica → next ≡ number + 1
    → IsNumbering all left made room number → IsNumbering all rest now room next
one_numbered {R} all left rest made now backup replica room number next left_is now_is numbered_as of more before =
    grind (arith, numbered_push, map-append, replica_of, append_assoc, length-append)

pub all_numbered : {R : Type 0} (all : List R) (made : List (BackupLane R)) (room number : ℕ) → IsNumbering all [] made room number → replicas_of made ≡ all
all_numbered all made room number it = sym (append-nil (replicas_of made)) ∙ it.parts

-- ---- and replicas are given back

-- the replicas of these backups are given back, but for those of the backups that are left
pub record IsGivingBack {R : Type 0} (all left : List (BackupLane R)) (given : List R) (room : ℕ) : Type 0 where
  pub parts : given ++ replicas_of left ≡ replicas_of all
  pub fits : length given + length left ≤ room

pub none_given : {R : Type 0} (all : List (BackupLane R)) (given : List R) (room : ℕ) → given ≡ [] → length all ≤ room → IsGivingBack all all given room
none_given {R} all given room none fits =
    subst (λ (list : List R). IsGivingBack all all list room) (sym none) (record { parts = refl; fits = omega arith })

pub one_given : {R : Type 0} (all left rest : List (BackupLane R)) (given now : List R) (backup : BackupLane R) (replica : R) (room : ℕ)
    → left ≡ backup ∷ rest → now ≡ given ++ replica ∷ [] → replica ≡ replica_of backup → IsGivingBack all left given room → IsGivingBack all rest now room
one_given {R} all left rest given now backup replica room left_is now_is of before = grind (arith, append_assoc, length-append)

pub all_given_back : {R : Type 0} (all : List (BackupLane R)) (given : List R) (room : ℕ) → IsGivingBack all [] given room → given ≡ replicas_of all
all_given_back all given room it = sym (append-nil given) ∙ it.parts

-- ---- what replicas report

-- a replica of such backups reports that nothing was ever written, if each of them does
pub told_new : {R : Type 0} (segments : R → Option Segments) (backups : List (BackupLane R)) (start : ℕ) (whole : List (BackupLane R))
    → ((place : ℕ) (backup : BackupLane R) → slice_get backups place ≡ Some backup → slice_get whole (start + place) ≡ Some backup)
    → All (λ replica. segments replica ≡ Some no_segments) (replicas_of backups)
    → AreTold segments whole (map (λ number. (number, no_segments)) (range_with_len (start + 1) (length backups)))
told_new segments [] start whole there tell number stored found = absurd (cc found)
told_new {R} segments (first ∷ rest) start whole there tell number stored found =
    ⊎_elim
    (λ (is : number ≡ start + 1).
    let here : get (map (λ (n : ℕ). (n, no_segments)) (range_with_len (start + 1) (length (first ∷ rest)))) number ≡ Some no_segments =
    ap (λ (b : Bool). cond b (Some no_segments) (get (map (λ (n : ℕ). (n, no_segments)) (range_with_len (start + 1 + 1) (length rest))) number)) (unsigned_tied number (start + 1) ∙ eq-eqb number (start + 1) is) in
    let same : Some no_segments ≡ Some stored = sym here ∙ found in
    let stored_is : no_segments ≡ stored = cc same in
    record {
      place = start;
      number_is = is;
      backup = first;
      there = ap (slice_get whole) (omega arith) ∙ there 0 first refl;
      tells = All-head (λ replica. segments replica ≡ Some no_segments) (replica_of first) (replicas_of rest) tell ∙ ap (λ (s : Segments). Some s) stored_is;
    })
    (λ (apart : number ≡ start + 1 → ⊥).
    told_new segments rest (start + 1) whole
    (λ place backup at. ap (slice_get whole) (omega arith) ∙ there (suc place) backup at)
    (All-tail (λ replica. segments replica ≡ Some no_segments) (replica_of first) (replicas_of rest) tell) number stored
    (sym (ap (λ (b : Bool). cond b (Some no_segments) (get (map (λ (n : ℕ). (n, no_segments)) (range_with_len (start + 1 + 1) (length rest))) number)) (unsigned_tied number (start + 1) ∙ ne_eqb number (start + 1) apart)) ∙ found))
    (cases_eq number (start + 1))
