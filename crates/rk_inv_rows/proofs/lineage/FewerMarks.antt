-- If marks are taken from entries that record nothing of a range, what bears no mark records the same of it, and so does what bears one.
use Rattle.std.proofs.Common.{◌≡◌, ℕ, suc, ◌+◌, Bool, true, false, cond, List, [], ◌∷◌, ◌++◌, Some, refl, sym, ap, ◌∙◌, arith, slice_get}
use Rattle.std.proofs.Common.{flat_map, ◌≤◌, Contains}
use Rattle.rk_inv_base.proofs.Words.{cond-false, false≢true, Range, Entry, is_marked, unmarked, counting, counts, named_by, Mark}
use Rattle.rk_inv_base.proofs.Words.{marked_entries, Call, Handover, Row, Written, Waits}

-- an entry says nothing about a range: it does not count, and names no side segment
pub record IsSilent (range : Range) (entry : Entry) : Type 0 where
  pub uncounted : counts range entry ≡ false
  pub unnamed : named_by range entry ≡ []

-- marks that are fewer: an entry that bore one and bears none now is silent
pub record AreFewer (range : Range) (old new : List Mark) (place : ℕ) (list : List Entry) : Type 0 where
  pub still : (k : ℕ) → is_marked new (place + k) ≡ true → is_marked old (place + k) ≡ true
  pub silent :
      (k : ℕ) (entry : Entry) → slice_get list k ≡ Some entry → is_marked old (place + k) ≡ true → is_marked new (place + k) ≡ false
      → IsSilent range entry

-- so it is of those behind the first
later_fewer : (range : Range) (old new : List Mark) (place : ℕ) (entry : Entry) (list : List Entry) → AreFewer range old new place (entry ∷ list) → AreFewer range old new (suc place) list
later_fewer range old new place entry list fewer =
    let there : (k : ℕ) → suc place + k ≡ place + suc k = λ k. omega arith in
    record {
      still = λ k marked.
          rw (there k) (fewer.still (suc k) (rw (← there k) marked));
      silent = λ k e at was is.
          fewer.silent (suc k) e at (rw (← there k) was)
          (rw (← there k) is);
    }

-- what is made of entries one by one, if a silent one leaves it as it is
module _ {Y : Type 0} (range : Range) (make : List Entry → List Y) (step : Entry → List Y → List Y) (each : (entry : Entry) (list : List Entry) → make (entry ∷ list) ≡ step entry (make list)) (leaves : (entry : Entry) (made : List Y) → IsSilent range entry → step entry made ≡ made) where
  without_first : (entry : Entry) (list : List Entry) → IsSilent range entry → make (entry ∷ list) ≡ make list
  without_first entry list silent = each entry list ∙ leaves entry (make list) silent

  with_first : (entry : Entry) (these those : List Entry) → make these ≡ make those → make (entry ∷ these) ≡ make (entry ∷ those)
  with_first entry these those same = each entry these ∙ ap (step entry) same ∙ sym (each entry those)

  -- by whether the first entry bore a mark, and bears one
  free_first : (was is : Bool) (entry : Entry) (before now : List Entry) → (is ≡ true → was ≡ true) → (was ≡ true → is ≡ false → IsSilent range entry) → make now ≡ make before → make (cond is now (entry ∷ now)) ≡ make (cond was before (entry ∷ before))
  free_first was is entry before now still silent same = grind (arith, without_first, false≢true, with_first)

  marked_first : (was is : Bool) (entry : Entry) (before now : List Entry) → (is ≡ true → was ≡ true) → (was ≡ true → is ≡ false → IsSilent range entry) → make now ≡ make before → make (cond is (entry ∷ now) now) ≡ make (cond was (entry ∷ before) before)
  marked_first was is entry before now still silent same = grind (arith, with_first, without_first, false≢true)

  first_still : (old new : List Mark) (place : ℕ) (list : List Entry) → AreFewer range old new place list → is_marked new place ≡ true → is_marked old place ≡ true
  first_still old new place list fewer marked =
      let here : place + 0 ≡ place = omega arith in
      rw (← here) (fewer.still 0 (rw here marked))

  first_silent : (old new : List Mark) (place : ℕ) (entry : Entry) (list : List Entry) → AreFewer range old new place (entry ∷ list) → is_marked old place ≡ true → is_marked new place ≡ false → IsSilent range entry
  first_silent old new place entry list fewer was is =
      let here : place + 0 ≡ place = omega arith in
      fewer.silent 0 entry refl (rw here was)
      (rw here is)

  -- what bears no mark makes the same
  pub same_free : (old new : List Mark) (place : ℕ) (list : List Entry) → AreFewer range old new place list → make (unmarked new place list) ≡ make (unmarked old place list)
  same_free old new place [] fewer = refl
  same_free old new place (entry ∷ list) fewer =
      free_first (is_marked old place) (is_marked new place) entry (unmarked old (suc place) list) (unmarked new (suc place) list)
      (first_still old new place (entry ∷ list) fewer) (first_silent old new place entry list fewer)
      (same_free old new (suc place) list (later_fewer range old new place entry list fewer))

  -- and so does what bears one
  pub same_marked : (old new : List Mark) (place : ℕ) (list : List Entry) → AreFewer range old new place list → make (marked_entries new place list) ≡ make (marked_entries old place list)
  same_marked old new place [] fewer = refl
  same_marked old new place (entry ∷ list) fewer =
      marked_first (is_marked old place) (is_marked new place) entry (marked_entries old (suc place) list) (marked_entries new (suc place) list)
      (first_still old new place (entry ∷ list) fewer) (first_silent old new place entry list fewer)
      (same_marked old new (suc place) list (later_fewer range old new place entry list fewer))

-- ---- what counts, and which side segments are named

module _ (range : Range) (old new : List Mark) (place : ℕ) (list : List Entry) (fewer : AreFewer range old new place list) where
  pub free_counts : counting range (unmarked new place list) ≡ counting range (unmarked old place list)
  free_counts =
      same_free range (counting range) (λ entry kept. cond (counts range entry) (entry ∷ kept) kept) (λ entry list. refl)
      (λ entry made silent. cond-false (counts range entry) (entry ∷ made) made silent.uncounted) old new place list fewer

  pub marked_counts : counting range (marked_entries new place list) ≡ counting range (marked_entries old place list)
  marked_counts =
      same_marked range (counting range) (λ entry kept. cond (counts range entry) (entry ∷ kept) kept) (λ entry list. refl)
      (λ entry made silent. cond-false (counts range entry) (entry ∷ made) made silent.uncounted) old new place list fewer

  pub free_names : flat_map (named_by range) (unmarked new place list) ≡ flat_map (named_by range) (unmarked old place list)
  free_names =
      same_free range (flat_map (named_by range)) (λ entry made. named_by range entry ++ made) (λ entry list. refl)
      (λ entry made silent. ap (λ (l : List ℕ). l ++ made) silent.unnamed) old new place list fewer

-- a call that waited waits in rows that still have its row, if its entry bears no mark and no more is applied than comes before it
pub waits_with : (rows now : List Row) (handovers : ℕ → Handover) (w : Written) (marks : List Mark) (applied q n : ℕ) (call : Call) (wait : Waits rows handovers w q n call) → applied ≤ n → is_marked marks n ≡ false → Contains now wait.row → Waits now handovers (record w { marks = marks; applied = applied }) q n call
waits_with rows now handovers w marks applied q n call wait behind free stands = search wait
