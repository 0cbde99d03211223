-- What a master's tablets have sealed is below a count of side segments, and stays so at its small changes.
use Rattle.std.proofs.Common.{◌≡◌, ◌<◌, ◌+◌, ℕ, Bool, true, false, cond, All, List, [], ◌∷◌, length, map, fold, Option, None, Some, refl}
use Rattle.std.proofs.Common.{subst, arith, length-append, unwrap_or}
use Rattle.rk_inv_base.proofs.Words.{All-map, All-nil, All-weaker, IsInOrder, NumberMap, get, Held, spelled_all, Entry, FIRST_SIDE_SEGMENT}
use Rattle.rk_inv_base.proofs.Words.{Master, tablet_at, with_all, with_appended, with_side_segment, with_tablet, as_entries, Tablet}
use Rattle.rk_inv_base.proofs.Words.{no_tablet, Worked}
use Rattle.rk_inv_tablets.proofs.Words.{kept_by_fold, All_insert, each_from_pairs}
use Rattle.rk_inv_wellformed.proofs.maps.Maps.{All_pairs}

-- what a tablet has sealed is among so many side segments
abbrev pub IsSealedUnder : ℕ → Tablet → Type 0
IsSealedUnder count tablet = All (λ number. number < FIRST_SIDE_SEGMENT + count) tablet.pulling.sealed

-- so it is with each of these
abbrev pub AreSealedUnder : ℕ → NumberMap Tablet → Type 0
AreSealedUnder count tablets = All (λ entry. IsSealedUnder count entry.1) tablets

-- a master has so many side segments, and what each of its tablets has sealed is among them
abbrev pub Seals : ℕ → Master → Type 0
Seals count master = (length master.log.sides ≡ count) × AreSealedUnder count master.tablets

-- what each of its tablets has sealed is there
abbrev pub SealsThere : Master → Type 0
SealsThere master = AreSealedUnder (length master.log.sides) master.tablets

-- so it is then
pub seals_there : (count : ℕ) (master : Master) → Seals count master → SealsThere master
seals_there count master seals = rw seals.0 seals.1

-- ---- more side segments

-- one more side segment
side_added : (count : ℕ) (master : Master) (items : List Held) → Seals count master → Seals (count + 1) (with_side_segment master items)
side_added count master items seals = grind (arith, length-append, spelled_all, as_entries)

-- more side segments, one after the other
pub sides_added : (sides : List (List Held)) (count : ℕ) (master : Master) → Seals count master → Seals (count + length sides) (fold with_side_segment master sides)
sides_added [] count master seals = grind arith
sides_added (items ∷ sides) count master seals =
    let same : count + 1 + length sides ≡ count + length (items ∷ sides) = omega arith in
    rw (← same) (sides_added sides (count + 1) (with_side_segment master items) (side_added count master items seals))

module _ (count : ℕ) where
  -- ---- tablets

  -- what a master has of a tablet
  pub sealed_at : (master : Master) (number : ℕ) → Seals count master → IsSealedUnder count (tablet_at master number)
  sealed_at master number seals = go (get master.tablets number) refl
    where
      go : (found : Option Tablet) → get master.tablets number ≡ found → IsSealedUnder count (unwrap_or found no_tablet)
      go None is = All-nil _
      go (Some tablet) is = each_from_pairs (λ (q : ℕ) (t : Tablet). IsSealedUnder count t) master.tablets seals.1 number tablet is

  -- one of its tablets is so
  pub seals_with_tablet : (master : Master) (number : ℕ) (tablet : Tablet) → Seals count master → IsSealedUnder count tablet → Seals count (with_tablet master number tablet)
  seals_with_tablet master number tablet seals sealed =
      (seals.0, All_insert (λ entry. IsSealedUnder count entry.1) master.tablets number tablet seals.1 sealed)

  -- each of its tablets is changed
  pub each_under : (change : ℕ × Tablet → Tablet) (tablets : NumberMap Tablet) → ((entry : ℕ × Tablet) → IsSealedUnder count entry.1 → IsSealedUnder count (change entry)) → AreSealedUnder count tablets → AreSealedUnder count (map (λ entry. (entry.0, change entry)) tablets)
  each_under change tablets keeps each =
      All-map (λ (entry : ℕ × Tablet). IsSealedUnder count entry.1) (λ (entry : ℕ × Tablet). (entry.0, change entry)) tablets
      (All-weaker _ _ keeps tablets each)

  -- ---- entries

  pub seals_with_all : (master : Master) (entries : List Entry) → Seals count master → Seals count (with_all master entries)
  seals_with_all master entries seals = kept_by_fold (Seals count) with_appended (λ now entry kept. kept) entries master seals

  -- ---- tests

  -- what is made if a test holds, and what if it does not
  pub either_seals : (test : Bool) (one other : Master) → Seals count one → Seals count other → Seals count (cond test one other)
  either_seals true one other first second = first
  either_seals false one other first second = second

  pub either_works : (test : Bool) (one other : Worked) → Seals count one.master → Seals count other.master → Seals count (cond test one other).master
  either_works true one other first second = first
  either_works false one other first second = second

-- ---- maps in order

-- what each tablet has sealed is there
abbrev pub IsSealedAt : Master → Type 0
IsSealedAt master = (tablet : ℕ) → IsSealedUnder (length master.log.sides) (tablet_at master tablet)

-- so it is with each pair of its map, if that is in order
pub there_from_each : (master : Master) → IsInOrder master.tablets → IsSealedAt master → SealsThere master
there_from_each master order at =
    All_pairs (λ (q : ℕ) (t : Tablet). IsSealedUnder (length master.log.sides) t) master.tablets order
    (λ q tablet found.
    subst (λ (o : Option Tablet). IsSealedUnder (length master.log.sides) (unwrap_or o no_tablet)) found (at q))
