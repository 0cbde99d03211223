use Rattle.std.proofs.Common.{◌≡◌, List, ◌++◌, map, ap, sym, ◌∙◌, subst}
use Rattle.std.specs.Prelude.{IfOk}
use denote.Ref.{Bor}
use Rattle.rk_types.specs.declared.held.Held.{Held}
use Rattle.rk_overlay.specs.Newest.{none_found, newest}
use Rattle.rk_overlay.specs.Lent.{IsTreeOf}
use Rattle.rk_overlay.proofs.Folds.{newest_from-append}
use Rattle.rk_overlay.proofs.Trees.{tree_of_nothing}
use Rattle.rk_overlay.proofs.layers.overlay.Goals as goal

-- both lists are taken in, and the items of the tree are listed and copied
pub returns : goal.returns
returns c =
    let a : List Held = c.args.a.now in
    let b : List Held = c.args.b.now in
    let first = c.in_ok-take_all.ensures none_found (tree_of_nothing c.new-newest.result c.new-newest.ensures.empty) in
    let both = c.in_ok-take_all-2.ensures (newest a) first in
    let is_tree : IsTreeOf c.take_all-2.new.newest (newest (a ++ b)) = subst (IsTreeOf c.take_all-2.new.newest) (sym (newest_from-append none_found a b)) both in
    let listed = ap (λ (xs : List (Bor Held)). map (λ item. item.now) xs) c.as_slice.ensures.value ∙ c.in_ok-lent.ensures (a ++ b) is_tree in
    subst (λ (xs : List Held). IfOk c.duplicates.result (λ copies. copies.items ≡ xs)) listed c.duplicates.ensures
