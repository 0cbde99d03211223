-- What the test of the order of lines says, and the test of what is kept.
use Rattle.std.proofs.Common.{◌≡◌, ℕ, ◌<◌, Bool, true, false, ◌||◌, ◌&&◌, eqb, ltb, arith}
use Rattle.std.proofs.lemmas.Bool.{or_left}
use Rattle.std.proofs.lemmas.Bool.Decides.{nat_tests}
use Rattle.rk_types.specs.declared.history.Placed.{Placed}
use Rattle.rk_model.specs.declared.line.Line.{Line}
use Rattle.rk_model.specs.Merged.{is_before, is_kept, is_mutation}

-- the test of the order of (stamp, lane) pairs
abbrev pub comes_first : ℕ → ℕ → ℕ → ℕ → Bool
comes_first s l t m = ltb s t || (eqb s t && ltb l m)

-- a line of a smaller stamp comes before
pub before_by_stamp : (a b : Line) → a.placed.stamp < b.placed.stamp → is_before a b ≡ true
before_by_stamp a b h = grind (arith, nat_tests, a.placed.stamp, a.lane, b.placed.stamp, b.lane)

-- a line of a greater stamp does not
pub not_before_by_stamp : (a b : Line) → b.placed.stamp < a.placed.stamp → is_before a b ≡ false
not_before_by_stamp a b h = grind (arith, nat_tests, a.placed.stamp, a.lane, b.placed.stamp, b.lane)

-- an accepted record is in the merged history
pub kept_if_accepted : (placed : Placed) → placed.accepted ≡ true → is_kept placed ≡ true
kept_if_accepted placed accepted = or_left placed.accepted (is_mutation placed.call.op) accepted

-- what comes before what comes first comes first
transitive :
    (s l t m u n : ℕ) → comes_first s l t m ≡ true → comes_first t m u n ≡ true → comes_first s l u n ≡ true
transitive s l t m u n first second = grind (arith, nat_tests)

-- of two places of different lanes one comes first
either_first :
    (s l t m : ℕ) → (l ≡ m → ⊥) → comes_first s l t m ≡ false → comes_first t m s l ≡ true
either_first s l t m apart second = grind (arith, nat_tests)

-- no two lines come before each other
pub before-asymmetric : (a b : Line) → is_before a b ≡ true → is_before b a ≡ true → ⊥
before-asymmetric a b first second = grind (arith, nat_tests, a.placed.stamp, a.lane, b.placed.stamp, b.lane)

-- a line before another, which is before a third, is before the third
pub before-transitive : (a b c : Line) → is_before a b ≡ true → is_before b c ≡ true → is_before a c ≡ true
before-transitive a b c first second =
    transitive a.placed.stamp a.lane b.placed.stamp b.lane c.placed.stamp c.lane first second

-- of two lines of different lanes the second comes before the first, if the first does not come before the second
pub before-either : (a b : Line) → (a.lane ≡ b.lane → ⊥) → is_before a b ≡ false → is_before b a ≡ true
before-either a b apart second = either_first a.placed.stamp a.lane b.placed.stamp b.lane apart second
