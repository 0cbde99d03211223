use Rattle.std.proofs.Common.{List, [], ◌∷◌, ◌++◌, length, Bor, append_assoc, sym, ap, ◌∙◌, subst}
use Rattle.std.proofs.lemmas.List.{append-nil, length-map, length-set}
use Rattle.rk_types.specs.declared.history.Placed.{Placed}
use Rattle.rk_model.specs.declared.line.Line.{Line}
use Rattle.rk_model.specs.Merged.{lines_of, merged}
use Rattle.rk_history.specs.First.{AreEmpty, IsFirst}
use Rattle.rk_history.specs.Journals.{journals_of}
use Rattle.rk_history.proofs.Merges.{merged_empty}
use Rattle.rk_history.proofs.Taken.{taken, without}
use Rattle.rk_history.proofs.merging.merge.Goals as goal

-- no journal has a record left
pub returns : goal.returns
returns c =
    let lent : List (Bor (List Placed)) = c.merge.rest.items in
    let empty : AreEmpty (journals_of lent) (length lent) =
    subst (λ (xs : List (Bor (List Placed))). AreEmpty (journals_of xs) (length xs)) c.as_slice.ensures.value c.in_default.ensures in
    let none = merged_empty (journals_of lent) (subst (AreEmpty (journals_of lent)) (sym (length-map lent (λ (journal : Bor (List Placed)). journal.now))) empty) in
    sym (append-nil c.merge.history.items)
    ∙ ap (λ (later : List Line). c.merge.history.items ++ later) (sym none)
    ∙ c.merge.invariant.merges

pub merge-preserved : goal.merge-preserved
merge-preserved c =
    let lent : List (Bor (List Placed)) = c.merge.rest.items in
    let first = c.in-Some.first in
    let is : IsFirst (journals_of lent) (length lent) first =
    subst (λ (xs : List (Bor (List Placed))). IsFirst (journals_of xs) (length xs) first) c.as_slice.ensures.value c.in-Some.ensures in
    let left = taken lent first c.merge.invariant.rising is in
    record {
      lanes = length-set lent first.lane first.later ∙ c.merge.invariant.lanes;
      rising = left.rising;
      merges =
          ap (λ (lines : List Line). lines ++ merged (without lent first)) c.in_ok-add_line.ensures
          ∙ append_assoc c.merge.history.items (lines_of first.lane (first.placed.now ∷ [])) (merged (without lent first))
          ∙ ap (λ (lines : List Line). c.merge.history.items ++ lines) (sym left.merges)
          ∙ c.merge.invariant.merges;
    }

pub merge-smaller : goal.merge-smaller
merge-smaller c =
    let lent : List (Bor (List Placed)) = c.merge.rest.items in
    let is : IsFirst (journals_of lent) (length lent) c.in-Some.first =
    subst (λ (xs : List (Bor (List Placed))). IsFirst (journals_of xs) (length xs) c.in-Some.first) c.as_slice.ensures.value c.in-Some.ensures in
    (taken lent c.in-Some.first c.merge.invariant.rising is).fewer
