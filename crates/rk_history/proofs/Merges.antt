-- The line that comes first of all journals begins their merged history, and what is left merges into the rest.
use Rattle.std.proofs.Common.{◌≡◌, ◌≢◌, ℕ, ◌+◌, ◌<◌, ◌≤◌, zero, suc, Bool, true, false, cond, List, [], ◌∷◌, ◌++◌, length, set, refl, sym, ap, subst, ◌∙◌, ⊎_elim, arith, get_or-set_same, get_or-set_other}
use Rattle.std.proofs.lemmas.Bool.{cases_eq, cases_lt, eq-eqb, ne_eqb}
use Rattle.std.proofs.lemmas.List.Elements.{All-nil, All-cons, All-append, All-filter, All-map, All-weaker}
use Rattle.std.specs.List.{sum_by}
use Rattle.std.proofs.lemmas.List.Sums.{sum_by-set}
use Rattle.std.specs.Prelude.{All, filter, map}
use Rattle.rk_types.specs.declared.history.Placed.{Placed}
use Rattle.rk_model.specs.declared.line.Line.{Line}
use Rattle.rk_model.specs.Merged.{IsMergedFrom, IsRisingAbove, is_before, is_kept, journal_of, lines_from, lines_of, merged, records_in}
use Rattle.rk_model.proofs.Order.{before_by_stamp, before-transitive}
use Rattle.rk_model.proofs.Appended.{All-in_order}
use Rattle.rk_model.proofs.Merging.{merged-IsMergedFrom}
use Rattle.rk_model.proofs.Lanes.{merged_once}
use Rattle.rk_history.specs.First.{AreEmpty, IsLeast, line_of}
use Rattle.rk_history.specs.Journals.{AreRising}

-- stamps above one are above a smaller one
rising_weaker : (low high : ℕ) (journal : List Placed) → low ≤ high → IsRisingAbove high journal → IsRisingAbove low journal
rising_weaker low high [] below rising = tt
rising_weaker low high (placed ∷ journal) below rising = (omega (arith, rising.0), rising.1)

-- each stamp of a journal is above it
each_above : (stamp : ℕ) (journal : List Placed) → IsRisingAbove stamp journal → All (λ placed. stamp < placed.stamp) journal
each_above stamp [] rising = All-nil (λ (placed : Placed). stamp < placed.stamp)
each_above stamp (placed ∷ journal) rising =
    All-cons (λ (one : Placed). stamp < one.stamp) placed journal rising.0
    (each_above stamp journal (rising_weaker stamp placed.stamp journal (omega (arith, rising.0)) rising.1))

-- what holds of each record of each lane holds of each line
each_line : (Q : ℕ → Placed → Type 0) (first : ℕ) (journals : List (List Placed))
    → ((lane : ℕ) → All (Q (first + lane)) (journal_of journals lane)) → All (λ line. Q line.lane line.placed) (lines_from first journals)
each_line Q first [] each = All-nil (λ (line : Line). Q line.lane line.placed)
each_line Q first (journal ∷ journals) each =
    All-append (λ (line : Line). Q line.lane line.placed) (lines_of first journal) (lines_from (first + 1) journals)
    (All-map (λ (line : Line). Q line.lane line.placed) (line_of first) (filter is_kept journal)
    (All-filter is_kept (Q first) journal (subst (λ (n : ℕ). All (Q n) journal) (same first) (each zero))))
    (each_line Q (first + 1) journals (λ lane. subst (λ (n : ℕ). All (Q n) (journal_of journals lane)) (moved first lane) (each (suc lane))))
  where
    same : (n : ℕ) → n + 0 ≡ n
    same n = omega arith

    moved : (n m : ℕ) → n + suc m ≡ n + 1 + m
    moved n m = omega arith

-- journals without records have no history
pub merged_none : (journals : List (List Placed)) → ((lane : ℕ) → journal_of journals lane ≡ []) → merged journals ≡ []
merged_none journals none =
    merged_once journals (merged journals) []
    (merged-IsMergedFrom journals (λ lane. subst (IsRisingAbove 0) (sym (none lane)) tt))
    (record { ordered = tt; complete = λ lane. ap (filter is_kept) (sym (none lane)) })

-- there is no journal past the last lane
pub journal_past : (journals : List (List Placed)) (lane : ℕ) → length journals ≤ lane → journal_of journals lane ≡ []
journal_past [] lane past = refl
journal_past (journal ∷ journals) zero past = absurd (omega (arith, past))
journal_past (journal ∷ journals) (suc lane) past = journal_past journals lane (omega (arith, past))

-- if no lane has a record left there is no history left
pub merged_empty : (journals : List (List Placed)) → AreEmpty journals (length journals) → merged journals ≡ []
merged_empty journals empty = grind (arith, merged_none, cases_lt, journal_past)

module _ (rest : List (List Placed)) (lane : ℕ) (placed : Placed) (later : List Placed)
    (rising : AreRising rest) (within : lane < length rest) (here : journal_of rest lane ≡ placed ∷ later)
    (least : IsLeast rest (length rest) (line_of lane placed)) where
  -- the journals without that record
  abbrev after : List (List Placed)
  after = set rest lane later

  own_after : journal_of after lane ≡ later
  own_after = get_or-set_same rest lane later [] within

  other_after : (other : ℕ) → other ≢ lane → journal_of after other ≡ journal_of rest other
  other_after other apart = get_or-set_other rest lane other later [] apart

  -- the stamps behind it are above its own
  above : IsRisingAbove placed.stamp later
  above = (subst (IsRisingAbove 0) here (rising lane)).1

  -- the stamps of what is left rise
  pub rising_after : AreRising after
  rising_after other = grind (arith, own_after, rising_weaker, above, other_after, cases_eq)

  -- it comes before a record of this lane
  abbrev Follows : ℕ → Placed → Type 0
  Follows other one = is_before (line_of lane placed) (line_of other one) ≡ true

  -- so it does if it comes before the first record of a journal
  follow_all : (other : ℕ) (journal : List Placed) → IsRisingAbove 0 journal
      → ((one : Placed) (behind : List Placed) → journal ≡ one ∷ behind → Follows other one) → All (Follows other) journal
  follow_all other [] rises first = All-nil (Follows other)
  follow_all other (one ∷ behind) rises first =
      All-cons (Follows other) one behind (first one behind refl)
      (All-weaker (λ (next : Placed). one.stamp < next.stamp) (Follows other)
      (λ next stamps. before-transitive (line_of lane placed) (line_of other one) (line_of other next) (first one behind refl)
      (before_by_stamp (line_of other one) (line_of other next) stamps)) behind (each_above one.stamp behind rises.1))

  -- it comes before all that is left
  follow_each : (other : ℕ) → All (Follows other) (journal_of after other)
  follow_each other =
      grind (arith, own_after, before_by_stamp, each_above, above, other_after, follow_all, cases_eq, cases_lt, journal_past)

  comes_first : All (λ line. is_before (line_of lane placed) line ≡ true) (merged after)
  comes_first =
      All-in_order (λ (line : Line). is_before (line_of lane placed) line ≡ true) (lines_from 0 after)
      (each_line Follows 0 after (λ other. subst (λ (n : ℕ). All (Follows n) (journal_of after other)) (sym (nothing_more other)) (follow_each other)))
    where
      nothing_more : (n : ℕ) → 0 + n ≡ n
      nothing_more n = omega arith

  from_after : IsMergedFrom after (merged after)
  from_after = merged-IsMergedFrom after rising_after

  -- the merged history begins with it, unless it is a read that no caller accepted
  pub merged_first : merged rest ≡ lines_of lane (placed ∷ []) ++ merged after
  merged_first =
      merged_once rest (merged rest) (lines_of lane (placed ∷ []) ++ merged after) (merged-IsMergedFrom rest rising)
      (go (is_kept placed) refl)
    where
      -- the journal of this lane, but for reads that nobody accepted
      own : filter is_kept (journal_of rest lane) ≡ cond (is_kept placed) (placed ∷ filter is_kept later) (filter is_kept later)
      own = ap (filter is_kept) here

      own_left : (other : ℕ) → other ≡ lane → records_in other (merged after) ≡ filter is_kept later
      own_left other same = from_after.complete other ∙ ap (filter is_kept) (ap (journal_of after) same ∙ own_after)

      -- the records of another lane
      others : (other : ℕ) → other ≢ lane → records_in other (merged after) ≡ filter is_kept (journal_of rest other)
      others other apart = from_after.complete other ∙ ap (filter is_kept) (other_after other apart)

      kept : is_kept placed ≡ true → (other : ℕ) → records_in other (line_of lane placed ∷ merged after) ≡ filter is_kept (journal_of rest other)
      kept is other =
          ⊎_elim
          (λ (same : other ≡ lane).
          rw (eq-eqb lane other (sym same))
          (ap (λ (records : List Placed). placed ∷ records) (own_left other same)
          ∙ sym (ap (λ (l : ℕ). filter is_kept (journal_of rest l)) same ∙ own ∙ ap (λ (b : Bool). cond b (placed ∷ filter is_kept later) (filter is_kept later)) is)))
          (λ (apart : other ≢ lane). rw (ne_eqb lane other (λ same. apart (sym same))) (others other apart))
          (cases_eq other lane)

      skipped : is_kept placed ≡ false → (other : ℕ) → records_in other (merged after) ≡ filter is_kept (journal_of rest other)
      skipped is other =
          ⊎_elim
          (λ (same : other ≡ lane).
          own_left other same
          ∙ sym (ap (λ (l : ℕ). filter is_kept (journal_of rest l)) same ∙ own ∙ ap (λ (b : Bool). cond b (placed ∷ filter is_kept later) (filter is_kept later)) is))
          (others other)
          (cases_eq other lane)

      go : (b : Bool) → is_kept placed ≡ b → IsMergedFrom rest (map (line_of lane) (cond b (placed ∷ []) []) ++ merged after)
      go true is = record { ordered = (comes_first, from_after.ordered); complete = kept is }
      go false is = record { ordered = from_after.ordered; complete = skipped is }

  -- fewer records are left
  pub fewer_left : sum_by (λ journal. length journal) after < sum_by (λ journal. length journal) rest
  fewer_left = grind (arith, sum_by-set)
