use Rattle.std.proofs.Common.{◌≡◌, [], List, ℕ, ap, sym, ◌∙◌, slice_get}
use Rattle.std.proofs.lemmas.List.{nil_from_length}
use Rattle.std.specs.VecDeque.Iter.{deque_iter_rest}
use Rattle.rk_attempts.specs.Selecting.{is_selected}
use Rattle.rk_attempts.proofs.Finding.{chosen, chosen_all}
use Rattle.rk_attempts.proofs.selection.first_with.Goals as goal

pub returns : goal.returns
returns c =
    let test = is_selected c.args.selection in
    let messages = c.args.wire.now.messages in
    let none = nil_from_length (deque_iter_rest c.loop-number.number-iterator) c.in-None.ensures.steps.0 in
    let all : [] ≡ chosen test messages = rw none at c.loop-number.invariant in
    ap (λ (numbers : List ℕ). slice_get numbers 0) (all ∙ sym (chosen_all test messages c.iter-number-items.ensures.found))
