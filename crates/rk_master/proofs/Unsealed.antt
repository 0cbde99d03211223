-- How many bytes the side logs of tablets have together.
use Rattle.std.proofs.Common.{◌≡◌, ℕ, zero, suc, ◌+◌, ◌<◌, ◌≤◌, List, [], ◌∷◌, length, drop, get_or, map, min, sum, refl, ap, ◌∙◌, arith}
use Rattle.std.specs.List.{fold}
use Rattle.rk_world.specs.Master.{unsealed_bytes}
use Rattle.rk_tablet.specs.Tablets.{tablet_of}
use Rattle.rk_master.specs.Parts.{tablets_of}
use Rattle.rk_master.specs.Places.{Row}
use Rattle.rk_master.proofs.Places.{drop_next}

-- the bytes of these tablets that are not sealed
abbrev pub unsealed_of : List Row → ℕ
unsealed_of rows = sum (map (λ entry. unsealed_bytes entry.1) (tablets_of rows))

-- a sum goes on from where it begins
sum_from : (start : ℕ) (numbers : List ℕ) → fold ◌+◌ start numbers ≡ start + sum numbers
sum_from start [] = omega arith
sum_from start (next ∷ more) = omega (arith, sum_from (start + next) more, sum_from (0 + next) more)

-- and begins at 0
from_none : (first left : ℕ) → (0 + first) + left ≡ first + left
from_none first left = omega arith

-- those of the tablets from a place on are those of the one there and of those behind it
pub unsealed_next : (rows : List Row) (i : ℕ) (d : Row) → i < length rows → unsealed_of (drop i rows) ≡ unsealed_bytes (tablet_of (get_or rows i d).1) + unsealed_of (drop (i + 1) rows)
unsealed_next rows i d within =
    let first : ℕ = unsealed_bytes (tablet_of (get_or rows i d).1) in
    ap unsealed_of (drop_next rows i d within)
    ∙ sum_from (0 + first) (map (λ entry. unsealed_bytes entry.1) (tablets_of (drop (i + 1) rows)))
    ∙ from_none first (unsealed_of (drop (i + 1) rows))

-- none are behind the last one
pub unsealed_none : (rows : List Row) (i : ℕ) → length rows ≤ i → unsealed_of (drop i rows) ≡ 0
unsealed_none [] zero past = refl
unsealed_none [] (suc i) past = refl
unsealed_none (row ∷ rows) zero past = absurd (omega (arith, past))
unsealed_none (row ∷ rows) (suc i) past = unsealed_none rows i (omega (arith, past))

-- a sum that stops at a bound goes on from where it stopped
pub stopped_next : (so_far next left bound : ℕ) → min (min (so_far + next) bound + left) bound ≡ min (so_far + (next + left)) bound
stopped_next so_far next left bound = omega arith

-- and ends there
pub stopped_last : (so_far left total bound : ℕ) → so_far ≤ bound → left ≡ 0 → min (so_far + left) bound ≡ min total bound → so_far ≡ min total bound
stopped_last so_far left total bound within none same = omega (arith, within, none, same)
