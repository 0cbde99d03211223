-- What tests of orders and terms come to.
use Rattle.std.proofs.Common.{arith, All, Bool, List, None, false, find, ◌||◌, ◌≡◌}
use Rattle.rk_inv_base.proofs.Words.{or_parts}
use Rattle.rk_inv_events.proofs.Words.{all_by, none_of}

-- ---- tests of several parts

-- if none of four tests holds, each fails
pub each_fails : (a b c d : Bool) → (a || b || c || d) ≡ false → (a ≡ false) × (b ≡ false) × (c ≡ false) × (d ≡ false)
each_fails a b c d is = grind (arith, or_parts)

-- ---- lists

-- if a test finds nothing, each element fails it
pub none_passes : {X : Type 0} (test : X → Bool) (xs : List X) → find test xs ≡ None → All (λ x. test x ≡ false) xs
none_passes test xs none = all_by (λ x. test x ≡ false) xs (none_of test xs none)
