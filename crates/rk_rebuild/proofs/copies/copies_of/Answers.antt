use Rattle.rk_rebuild.proofs.Words.{◌≡◌, List, [], map, not, ap, ◌∙◌, filter, Bor, Held, items_of, lent}
use Rattle.std.proofs.lemmas.Result.{IfOk-weaker}
use Rattle.rk_overlay.specs.Newest.{none_found}
use Rattle.rk_overlay.specs.Overlay.{newest_items}
use Rattle.rk_overlay.proofs.Trees.{tree_of_nothing}
use Rattle.rk_world.specs.Merge.{copies_of, has_version}
use Rattle.rk_rebuild.proofs.Versions.{no_versions}
use Rattle.rk_rebuild.proofs.copies.copies_of.Goals as goal

-- what was taken in is listed, and what is not noted is copied
pub returns : goal.returns
returns c =
    let own : List Held = items_of (lent c.args.own.now) in
    let all : List Held = items_of (lent c.args.all.now) in
    let is_tree = c.in_ok-take_all.ensures none_found (tree_of_nothing c.new-newest.result c.new-newest.ensures.empty) in
    let noted = c.in_ok-note_all.ensures [] (no_versions c.new-versions.result c.new-versions.ensures.empty) in
    let listed : map (λ (item : Bor Held). item.now) c.as_slice.result.now ≡ newest_items all =
    ap (λ (xs : List (Bor Held)). map (λ item. item.now) xs) c.as_slice.ensures.value ∙ c.in_ok-items.ensures all is_tree in
    IfOk-weaker c.lacking.result _ (λ copies. copies.items ≡ copies_of own all)
    (λ copies are. are own noted ∙ ap (λ (items : List Held). filter (λ item. not (has_version own item)) items) listed)
    c.lacking.ensures
