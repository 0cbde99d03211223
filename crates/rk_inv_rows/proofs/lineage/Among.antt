-- What is in lists that others are made of: in parts of them, in what is kept by a test, and in what each element gives.
use Rattle.std.proofs.Common.{◌≡◌, ℕ, zero, suc, ◌≤◌, Bool, true, List, [], ◌∷◌, arith, drop, take, filter, All, Contains, flat_map}
use Rattle.rk_inv_base.proofs.Words.{All-contains, All-contains_itself, All-drop, All-nil, All-take}
use Rattle.std.proofs.lemmas.List.{take-take}
use Rattle.rk_inv_base.proofs.views.Among.{from_flat, to_flat}
use Rattle.rk_inv_rows.proofs.Words.{filter_from, filter_stands, kept_stands}

-- ---- parts

-- what holds of each from a place on holds of each from a later one, and of those in a first part
pub later_all : {X : Type 0} (P : X → Type 0) (n m : ℕ) (list : List X) → n ≤ m → All P (drop n list) → All P (drop m list)
later_all P zero m list behind all = All-drop P m list all
later_all P (suc n) zero list behind all = absurd (omega (arith, behind))
later_all P (suc n) (suc m) [] behind all = all
later_all P (suc n) (suc m) (x ∷ list) behind all = later_all P n m list (omega (arith, behind)) all

pub first_all : {X : Type 0} (P : X → Type 0) (n m : ℕ) (list : List X) → All P (drop n list) → All P (drop n (take m list))
first_all P zero m list all = All-take P m list all
first_all P (suc n) zero list all = All-nil P
first_all P (suc n) (suc m) [] all = all
first_all P (suc n) (suc m) (x ∷ list) all = first_all P n m list all

pub later_stands : {X : Type 0} (n m : ℕ) (list : List X) (x : X) → n ≤ m → Contains (drop m list) x → Contains (drop n list) x
later_stands n m list x behind stands =
    All-contains (Contains (drop n list)) (drop m list) x
    (later_all (Contains (drop n list)) n m list behind (All-contains_itself (drop n list))) stands

pub first_stand : {X : Type 0} (n m : ℕ) (list : List X) (x : X) → Contains (drop n (take m list)) x → Contains (drop n list) x
first_stand n m list x stands =
    All-contains (Contains (drop n list)) (drop n (take m list)) x
    (first_all (Contains (drop n list)) n m list (All-contains_itself (drop n list))) stands

-- a longer first part has what a shorter one has
pub longer_stands : {X : Type 0} (n few many : ℕ) (list : List X) (x : X) → few ≤ many → Contains (drop n (take few list)) x → Contains (drop n (take many list)) x
longer_stands n few many list x more stands = first_stand n few (take many list) x (rw (take-take few many list more) stands)

-- more elements give more
pub flat_among : {X Y : Type 0} (f : X → List Y) (xs others : List X) → ((x : X) → Contains xs x → Contains others x) → (y : Y) → Contains (flat_map f xs) y → Contains (flat_map f others) y
flat_among f xs others among y stands =
    let found = from_flat f xs y stands in to_flat f others found.0 y (among found.0 found.1) found.2

-- what is kept by a test passes it
pub kept_passes : {X : Type 0} (p : X → Bool) (xs : List X) (x : X) → Contains (filter p xs) x → p x ≡ true
kept_passes p xs x stands = (kept_stands p xs x stands).1

-- and a test keeps more of them
pub kept_among : {X : Type 0} (p : X → Bool) (xs others : List X) → ((x : X) → Contains xs x → Contains others x) → (x : X) → Contains (filter p xs) x → Contains (filter p others) x
kept_among p xs others among x stands = filter_stands p others x (among x (filter_from p xs x stands)) (kept_stands p xs x stands).1
