-- Counts of faults: a count of what went wrong outside, which never falls. A program cannot raise it, so an
-- answer that reports a fault is tied to a fault that happened.
use Rattle.std.specs.Prelude.{ℕ, ◌+◌, ◌-◌, ◌^◌, ◌≡◌, ◌<◌, ◌≤◌, min, List, length, Result, IfOk, OnOk, OnErr}

-- one fault more; a count that has reached 2^64-1 stays there
abbrev pub one_more : ℕ → ℕ
one_more count = min (count + 1) (2 ^ 64 - 1)

-- at least one fault came between the two counts
abbrev pub Rose : ℕ → ℕ → Type 0
Rose before now = one_more before ≤ now

-- the count does not fall: it stays if the answer is good, and an error comes only if it rose
pub record HasCause {T E : Type 0} (before now : ℕ) (result : Result T E) : Type 0 where
  pub later : before ≤ now
  pub kept : OnOk result (now ≡ before)
  pub failed : OnErr result (Rose before now)

-- the same of a put, for which taking nothing of some bytes is a fault too
pub record HasPutCause {E : Type 0} (before now : ℕ) (result : Result ℕ E) (piece : List ℕ) : Type 0 where
  pub later : before ≤ now
  pub kept : IfOk result (λ count. (0 < length piece → 0 < count) → now ≡ before)
  pub idle : IfOk result (λ count. count ≡ 0 → 0 < length piece → Rose before now)
  pub failed : OnErr result (Rose before now)
