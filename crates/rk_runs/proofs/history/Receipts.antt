-- Receipts that are numbered from 1 on, and whose stamps rise.
use Rattle.std.proofs.Common.{◌≡◌, ℕ, zero, suc, ◌+◌, ◌<◌, ◌≤◌, Bool, true, false, eqb, ltb, List, [], ◌∷◌, ◌++◌, Some, cond, refl, sym, ap}
use Rattle.std.proofs.Common.{◌∙◌, ⊎_elim, arith, map, filter, length, slice_get, All, Contains}
use Rattle.rk_inv_base.proofs.Words.{nat_tests, All-filter, All-head, All-map, All-nil, All-tail, All-weaker, get_or_from_slice_get}
use Rattle.rk_inv_base.proofs.Words.{none-some, slice_get-get_or, slice_get_within, Receipt, Answered, Line}
use Rattle.rk_model.specs.Merged.{IsInOrder, is_before}
use Rattle.rk_model.proofs.Order.{before-asymmetric}
use Rattle.rk_model.specs.Ordered.{IsNumberedFrom, answer_of, told_by}
use Rattle.rk_inv_base.proofs.rows.Apart.{contains_cases}
use Rattle.rk_runs.specs.history.Agreement.{AreRisingAbove}
use Rattle.rk_runs.proofs.history.Answers.{AreInOrder, comes_before}

-- what is in a list is at a place of it
pub place_of : {X : Type 0} (xs : List X) (x : X) → Contains xs x → (k : ℕ) × (slice_get xs k ≡ Some x)
place_of xs x stands = (stands.0, slice_get-get_or xs stands.0 x stands.1 ∙ ap Some stands.2)

-- ---- seqs

-- receipts that are numbered from a seq on have seqs from it on, as many as they are
pub seqs_within : (seq : ℕ) (receipts : List Receipt) → IsNumberedFrom seq receipts → (receipt : Receipt) → Contains receipts receipt → (seq ≤ receipt.call.seq) × (receipt.call.seq < seq + length receipts)
seqs_within seq [] numbered receipt stands = absurd (omega (arith, stands.1))
seqs_within seq (first ∷ receipts) numbered receipt stands =
    ⊎_elim
    (λ (is : first ≡ receipt).
    let here : receipt.call.seq ≡ seq = ap (λ (r : Receipt). r.call.seq) (sym is) ∙ numbered.0 in
    (omega (arith, here), omega (arith, here)))
    (λ (later : Contains receipts receipt).
    let within = seqs_within (seq + 1) receipts numbered.1 receipt later in
    (omega (arith, within.0), omega (arith, within.1)))
    (contains_cases first receipts receipt stands)

-- receipts of one seq are one
pub one_seq : (seq : ℕ) (receipts : List Receipt) → IsNumberedFrom seq receipts → (a b : Receipt) → Contains receipts a → Contains receipts b → a.call.seq ≡ b.call.seq → a ≡ b
one_seq seq [] numbered a b first second same = absurd (omega (arith, first.1))
one_seq seq (receipt ∷ receipts) numbered a b first second same =
    ⊎_elim
    (λ (ea : receipt ≡ a).
    ⊎_elim (λ (eb : receipt ≡ b). sym ea ∙ eb)
    (λ (later : Contains receipts b).
    let within = seqs_within (seq + 1) receipts numbered.1 b later in
    let here : a.call.seq ≡ seq = ap (λ (r : Receipt). r.call.seq) (sym ea) ∙ numbered.0 in
    absurd (omega (arith, within.0, here, same)))
    (contains_cases receipt receipts b second))
    (λ (ca : Contains receipts a).
    ⊎_elim
    (λ (eb : receipt ≡ b).
    let within = seqs_within (seq + 1) receipts numbered.1 a ca in
    let here : b.call.seq ≡ seq = ap (λ (r : Receipt). r.call.seq) (sym eb) ∙ numbered.0 in
    absurd (omega (arith, within.0, here, same)))
    (λ (cb : Contains receipts b). one_seq (seq + 1) receipts numbered.1 a b ca cb same)
    (contains_cases receipt receipts b second))
    (contains_cases receipt receipts a first)

-- one more receipt, with the next seq
pub numbered_push : (seq : ℕ) (receipts : List Receipt) (receipt : Receipt) → IsNumberedFrom seq receipts → receipt.call.seq ≡ seq + length receipts → IsNumberedFrom seq (receipts ++ receipt ∷ [])
numbered_push seq [] receipt numbered next = (omega (arith, next), tt)
numbered_push seq (first ∷ receipts) receipt numbered next = (numbered.0, numbered_push (seq + 1) receipts receipt numbered.1 (omega (arith, next)))

-- ---- stamps

-- each stamp of receipts is above the one from which they rise
pub stamps_above : (stamp : ℕ) (receipts : List Receipt) → AreRisingAbove stamp receipts → All (λ receipt. stamp < receipt.stamp) receipts
stamps_above stamp [] rising = All-nil _
stamps_above stamp (first ∷ receipts) rising = grind (arith, rising.0, first.stamp, rising.1, (stamps_above first.stamp receipts rising.1))

-- one more receipt, with a greater stamp
pub rising_push : (stamp : ℕ) (receipts : List Receipt) (receipt : Receipt) → AreRisingAbove stamp receipts → stamp < receipt.stamp → All (λ other. other.stamp < receipt.stamp) receipts → AreRisingAbove stamp (receipts ++ receipt ∷ [])
rising_push stamp [] receipt rising above below = (above, tt)
rising_push stamp (first ∷ receipts) receipt rising above below = (
  rising.0,
  rising_push first.stamp receipts receipt rising.1
      (All-head (λ (other : Receipt). other.stamp < receipt.stamp) first receipts below)
      (All-tail (λ (other : Receipt). other.stamp < receipt.stamp) first receipts below),
)

-- so the answers that receipts record are in order
later_stamp : (a b : Answered) → a.stamp < b.stamp → comes_before a b ≡ true
later_stamp a b above = grind (arith, ltb, eqb, nat_tests, a.stamp, b.stamp, a.lane, b.lane)

pub told_in_order : (stamp : ℕ) (receipts : List Receipt) → AreRisingAbove stamp receipts → AreInOrder (map told_by receipts)
told_in_order stamp [] rising = tt
told_in_order stamp (first ∷ receipts) rising = (
  All-map (λ b. comes_before (told_by first) b ≡ true) told_by receipts
      (All-weaker (λ (r : Receipt). first.stamp < r.stamp) (λ (r : Receipt). comes_before (told_by first) (told_by r) ≡ true)
      (λ r above. later_stamp (told_by first) (told_by r) above) receipts (stamps_above first.stamp receipts rising.1)),
  told_in_order first.stamp receipts rising.1,
)

-- and so are those of lines that pass a test, of a history that is in order
pub lines_in_order : (test : Line → Bool) (lines : List Line) → IsInOrder lines → AreInOrder (map answer_of (filter test lines))
lines_in_order test [] ordered = tt
lines_in_order test (line ∷ lines) ordered = go (test line) (lines_in_order test lines ordered.1)
  where
    later : All (λ b. comes_before (answer_of line) b ≡ true) (map answer_of (filter test lines))
    later =
        All-map (λ b. comes_before (answer_of line) b ≡ true) answer_of (filter test lines)
        (All-filter test (λ (l : Line). is_before line l ≡ true) lines ordered.0)

    go : (b : Bool) → AreInOrder (map answer_of (filter test lines)) → AreInOrder (map answer_of (cond b (line ∷ filter test lines) (filter test lines)))
    go true rest = (later, rest)
    go false rest = rest

-- what is at a place of a list is in it
pub stands_at : {X : Type 0} (xs : List X) (k : ℕ) (x : X) → slice_get xs k ≡ Some x → Contains xs x
stands_at xs k x at = (k, slice_get_within xs k x at, get_or_from_slice_get xs k x x at)

-- a line is at one place of a history that is in order
first_once : (first : Line) (lines : List Line) → All (λ l. is_before first l ≡ true) lines → (x : Line) (j : ℕ) → Some first ≡ Some x → slice_get lines j ≡ Some x → ⊥
first_once first lines before x j is at = grind (arith, stands_at, before-asymmetric)

pub one_place : (lines : List Line) → IsInOrder lines → (i j : ℕ) (line : Line) → slice_get lines i ≡ Some line → slice_get lines j ≡ Some line → i ≡ j
one_place [] ordered i j line first second = absurd (none-some line first)
one_place (line ∷ lines) ordered zero zero x first second = refl
one_place (line ∷ lines) ordered zero (suc j) x first second = absurd (first_once line lines ordered.0 x j first second)
one_place (line ∷ lines) ordered (suc i) zero x first second = absurd (first_once line lines ordered.0 x i second first)
one_place (line ∷ lines) ordered (suc i) (suc j) x first second = ap suc (one_place lines ordered.1 i j x first second)
