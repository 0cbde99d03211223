-- Reading a list, one member after the other as a loop does.
use Rattle.std.proofs.Common.{◌≡◌, ℕ, suc, ◌-◌, ◌+◌, ◌≤◌, ◌<◌, List, [], ◌∷◌, ◌++◌, Result, Ok, Err, refl, sym, ◌∙◌, arith, false, eqb}
use Rattle.std.specs.Prelude.{max}
use Rattle.std.specs.List.{AllByRecursion}
use Rattle.std.proofs.lemmas.Bool.Decides.{nat_tests}
use Rattle.rk_types.specs.declared.call.Ended.{Ended}
use Rattle.rk_entry.specs.declared.error.DecodeError.{DecodeError}
use Rattle.rk_entry.specs.declared.error.DecodeError.TheVariants.{Cut, Bad, NoMemory}
use Rattle.rk_entry.specs.Steps.{Fails}
use Rattle.rk_entry.specs.Ends.{read_end}
use Rattle.rk_entry.specs.Lists.{read_ends, is_among, read_segment, read_segments}

-- after one more end, what is still to be read completes the same whole
pub ends_go_on : (count i above : ℕ) (before : List Ended) (bytes : List ℕ) (e : Ended) (after : List ℕ) (whole : Result (List Ended × List ℕ) DecodeError)
    → i < count → read_end above bytes ≡ Ok (e, after) → read_ends (count - i) above before bytes ≡ whole
    → read_ends (count - (i + 1)) e.client (before ++ e ∷ []) after ≡ whole
unfolding read_ends
ends_go_on count i above before bytes e after whole more read so_far =
    let k : count - i ≡ suc (count - (i + 1)) = omega arith in
    let one : read_ends (count - i) above before bytes ≡ read_ends (count - (i + 1)) e.client (before ++ e ∷ []) after = rw (k, read) refl in
    sym one ∙ so_far

-- a fault of one end is the fault of the whole
pub ends_fail : (fault : DecodeError) (count i above : ℕ) (before : List Ended) (bytes : List ℕ) (whole : Result (List Ended × List ℕ) DecodeError)
    → i < count → Fails fault (read_end above bytes) → read_ends (count - i) above before bytes ≡ whole → Fails fault whole
unfolding read_ends
ends_fail Cut count i above before bytes whole more failed so_far =
    let k : count - i ≡ suc (count - (i + 1)) = omega arith in
    let one : read_ends (count - i) above before bytes ≡ Err Cut = rw (k, failed) refl in
    sym so_far ∙ one
ends_fail (Bad code) count i above before bytes whole more failed so_far =
    let k : count - i ≡ suc (count - (i + 1)) = omega arith in
    let one : read_ends (count - i) above before bytes ≡ Err (Bad code) = rw (k, failed) refl in
    sym so_far ∙ one
ends_fail NoMemory count i above before bytes whole more failed so_far = tt

-- if no end is left to be read, those that were read are the whole
pub ends_done : (count i above : ℕ) (before : List Ended) (bytes : List ℕ) (whole : Result (List Ended × List ℕ) DecodeError)
    → count ≤ i → read_ends (count - i) above before bytes ≡ whole → whole ≡ Ok (before, bytes)
unfolding read_ends
ends_done count i above before bytes whole all so_far =
    let k : count - i ≡ 0 = omega arith in
    let one : read_ends (count - i) above before bytes ≡ Ok (before, bytes) = rw k refl in
    sym so_far ∙ one

-- after one more number, what is still to be read completes the same whole
pub segments_go_on : (count i : ℕ) (before : List ℕ) (bytes : List ℕ) (n : ℕ) (after : List ℕ) (whole : Result (List ℕ × List ℕ) DecodeError)
    → i < count → read_segment before bytes ≡ Ok (n, after) → read_segments (count - i) before bytes ≡ whole
    → read_segments (count - (i + 1)) (before ++ n ∷ []) after ≡ whole
unfolding read_segments
segments_go_on count i before bytes n after whole more read so_far =
    let k : count - i ≡ suc (count - (i + 1)) = omega arith in
    let one : read_segments (count - i) before bytes ≡ read_segments (count - (i + 1)) (before ++ n ∷ []) after = rw (k, read) refl in
    sym one ∙ so_far

-- a fault of one number is the fault of the whole
pub segments_fail : (fault : DecodeError) (count i : ℕ) (before : List ℕ) (bytes : List ℕ) (whole : Result (List ℕ × List ℕ) DecodeError)
    → i < count → Fails fault (read_segment before bytes) → read_segments (count - i) before bytes ≡ whole → Fails fault whole
unfolding read_segments
segments_fail Cut count i before bytes whole more failed so_far =
    let k : count - i ≡ suc (count - (i + 1)) = omega arith in
    let one : read_segments (count - i) before bytes ≡ Err Cut = rw (k, failed) refl in
    sym so_far ∙ one
segments_fail (Bad code) count i before bytes whole more failed so_far =
    let k : count - i ≡ suc (count - (i + 1)) = omega arith in
    let one : read_segments (count - i) before bytes ≡ Err (Bad code) = rw (k, failed) refl in
    sym so_far ∙ one
segments_fail NoMemory count i before bytes whole more failed so_far = tt

-- if no number is left to be read, those that were read are the whole
pub segments_done : (count i : ℕ) (before : List ℕ) (bytes : List ℕ) (whole : Result (List ℕ × List ℕ) DecodeError)
    → count ≤ i → read_segments (count - i) before bytes ≡ whole → whole ≡ Ok (before, bytes)
unfolding read_segments
segments_done count i before bytes whole all so_far =
    let k : count - i ≡ 0 = omega arith in
    let one : read_segments (count - i) before bytes ≡ Ok (before, bytes) = rw k refl in
    sym so_far ∙ one

-- a number above all of those before is not among them
pub among_above : (greatest n : ℕ) (before : List ℕ) → AllByRecursion (λ m. m ≤ greatest) before → greatest < n → is_among n before ≡ false
among_above greatest n [] all above = refl
among_above greatest n (m ∷ before) all above = grind (arith, eqb, nat_tests, all.0, all.1, (among_above greatest n before all.1 above))

-- the greatest of the numbers so far and one more is at least each of them
pub greatest_push : (greatest n : ℕ) (before : List ℕ) → AllByRecursion (λ m. m ≤ greatest) before → AllByRecursion (λ m. m ≤ max greatest n) (before ++ n ∷ [])
greatest_push greatest n [] all = (omega arith, tt)
greatest_push greatest n (m ∷ before) all = (omega (arith, all.0), greatest_push greatest n before all.1)
