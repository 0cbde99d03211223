-- What is found among the numbers after one, up to a last one.
use Rattle.std.proofs.Common.{◌≡◌, ◌≤◌, ◌<◌, ◌+◌, ◌-◌, ◌++◌, ℕ, Bool, true, false, cond, List, [], ◌∷◌, filter, find, map, None, Some, sym, ap, ◌∙◌, append_assoc, append-nil, arith}
use Rattle.std.specs.List.{range_with_len}

-- the numbers after one, up to a last one
abbrev pub after : ℕ → ℕ → List ℕ
after before last = range_with_len (before + 1) (last - before)

-- they are the next one and those after it, if there are some
after_next : (before last : ℕ) → before < last → after before last ≡ (before + 1) ∷ after (before + 1) last
after_next before last within = grind arith

after_none : (before last : ℕ) → last ≤ before → after before last ≡ []
after_none before last past = grind arith

module _ (test : ℕ → Bool) where
  -- ---- the first that passes a test

  pub first_here : (before last : ℕ) → before < last → test (before + 1) ≡ true → find test (after before last) ≡ Some (before + 1)
  first_here before last within passes = grind (arith, after_next)

  pub first_later : (before last : ℕ) → before < last → test (before + 1) ≡ false → find test (after before last) ≡ find test (after (before + 1) last)
  first_later before last within fails = grind (arith, after_next)

  pub first_none : (before last : ℕ) → last ≤ before → find test (after before last) ≡ None
  first_none before last past = ap (find test) (after_none before last past)

  -- ---- what is made of all that pass it

  module _ {X : Type 0} (made : ℕ → X) where
    abbrev pub made_after : ℕ → ℕ → List X
    made_after before last = map made (filter test (after before last))

    made_where : (before last : ℕ) (b : Bool) → before < last → test (before + 1) ≡ b
        → made_after before last ≡ map made (cond b ((before + 1) ∷ filter test (after (before + 1) last)) (filter test (after (before + 1) last)))
    made_where before last b within is =
        ap (λ (list : List ℕ). map made (filter test list)) (after_next before last within)
        ∙ ap (λ (b : Bool). map made (cond b ((before + 1) ∷ filter test (after (before + 1) last)) (filter test (after (before + 1) last)))) is

    pub one_made : (items : List X) (before last : ℕ) → before < last → test (before + 1) ≡ true
        → (items ++ made (before + 1) ∷ []) ++ made_after (before + 1) last ≡ items ++ made_after before last
    one_made items before last within passes =
        append_assoc items (made (before + 1) ∷ []) (made_after (before + 1) last)
        ∙ ap (λ (list : List X). items ++ list) (sym (made_where before last true within passes))

    pub one_passed : (items : List X) (before last : ℕ) → before < last → test (before + 1) ≡ false
        → items ++ made_after (before + 1) last ≡ items ++ made_after before last
    one_passed items before last within fails = ap (λ (list : List X). items ++ list) (sym (made_where before last false within fails))

    pub all_made : (items : List X) (before last : ℕ) → last ≤ before → items ++ made_after before last ≡ items
    all_made items before last past = ap (λ (list : List ℕ). items ++ map made (filter test list)) (after_none before last past) ∙ append-nil items
