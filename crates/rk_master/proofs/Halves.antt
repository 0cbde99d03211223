-- A tablet of a master is split.
use Rattle.rk_master.proofs.Words.{◌≡◌, ℕ, ◌<◌, Bool, true, false, cond, arith, Range, Master, tablet_at, Tablet, no_tablet}
use Rattle.std.proofs.lemmas.Bool.Decides.{nat_tests}
use Rattle.rk_world.specs.Splits.{has_parts, with_halves, with_split}

-- what a split makes of a tablet by whether its range has parts
abbrev pub split_by : Bool → Master → ℕ → Tablet → ℕ → ℕ → ℕ → Master
split_by parts master number tablet at new term = cond parts (with_halves master number tablet at new term) master

-- it is so by the tablet that is there, and its parts
pub split_is : (master : Master) (number at new term : ℕ) (tablet : Tablet) (parts : Bool) → tablet_at master number ≡ tablet → has_parts tablet.handover.range at ≡ parts
    → split_by parts master number tablet at new term ≡ with_split master number at new term
split_is master number at new term tablet parts is has = grind arith

-- a tablet that is not known has no parts
pub nothing_parts : (at : ℕ) → has_parts no_tablet.handover.range at ≡ false
nothing_parts at = grind (arith, nat_tests)

-- what has parts is split at a hash above 0
pub parts_some : (range : Range) (at : ℕ) → has_parts range at ≡ true → 0 < at
parts_some range at has = grind (arith, nat_tests, range.first, range.last)
