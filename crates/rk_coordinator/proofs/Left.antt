-- The lowest number of a range that passes a test, found by trying one after the other.
use Rattle.std.proofs.Common.{◌≡◌, ℕ, suc, ◌+◌, ◌-◌, ◌<◌, Bool, false, find, arith}
use Rattle.std.specs.List.{range_with_len}

-- the first one does not pass
pub passed_over : (p : ℕ → Bool) (a b : ℕ) → a < b → p a ≡ false → find p (range_with_len (a + 1) (b - (a + 1))) ≡ find p (range_with_len a (b - a))
passed_over p a b below fails =
    let more : b - a ≡ suc (b - (a + 1)) = omega arith in
    rw (more, fails)
