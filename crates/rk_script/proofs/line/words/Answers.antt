-- The chain gives the first parts of the line that are not empty.
use Rattle.std.proofs.Common.{◌≡◌, ◌∙◌, ◌++◌, ℕ, List, length, map, take, rules, tests, subst, sym, ap}
use Rattle.std.specs.Prelude.{Option, Result, MatchResult, OnOk, nat_lt}
use Rattle.std.specs.Iterator.{Drains, Yields}
use Rattle.std.proofs.lemmas.Iterator.{YieldsList, YieldsList-from_take}
use Rattle.std.proofs.lemmas.Iterator.Adapters.{fact_from_extend}
use Rattle.std.proofs.lemmas.Iterator.Consumers.{YieldsList-at, YieldsList-from_filter}
use Rattle.std.proofs.lemmas.Result.{IfOk-at_ok}
use Rattle.std.proofs.lemmas.Iterator.Splits.{YieldsList-from_slice_split}
use Rattle.rk_script.specs.Lines.{is_blank, words_of}
use Rattle.rk_script.specs.declared.line.TheConstants.{MOST_WORDS}
use Rattle.rk_script.proofs.line.words.Goals as goal

-- what `extend` puts behind is what the chain gives
put_behind : {T A C E Q : Type 0} {steps : T → Option A → T → Type 0} {all : List C} {P : List A → Type 0} {s : T} (v : A → C) (r : Result (Unit {0}) E)
    → ((it : T) × (xs : List A) × (it ≡ s) × P xs × MatchResult r (λ _. Drains steps it xs) (λ _. (t : T) × Yields steps it xs t))
    → YieldsList steps v s all → ((xs : List A) → map v xs ≡ all → P xs → Q) → OnOk r Q
put_behind {steps = steps} {all} v r ran road gives =
    fact_from_extend v r ran (λ it is. subst (λ it. YieldsList steps v it all) (sym is) road) gives

pub returns : goal.returns
returns c =
    IfOk-at_ok (λ _. map (λ word. word.now) c.extend.new.self.items ≡ take MOST_WORDS (words_of c.args.line.now)) c.in_ok-extend.was
    (put_behind (λ word. word.now) c.extend.result c.extend.ensures.ran
    (YieldsList-from_take MOST_WORDS
    (YieldsList-at c.take-parts.ensures.source
    (YieldsList-from_filter _ (λ (word : List ℕ). nat_lt 0 (length word))
    (YieldsList-at c.filter.ensures.source
    (YieldsList-from_slice_split _ is_blank c.args.line.now c.split.ensures.rest c.split.ensures.done c.split.ensures.closure
    (λ x r q k. search (rules, tests))))
    c.filter.ensures.closure
    (λ x r q k. search (rules, tests))))
    c.take-parts.ensures.count)
    (λ xs all put. ap (map (λ word. word.now)) (put ∙ ap (λ items. items ++ xs) c.new-words.ensures) ∙ all))
