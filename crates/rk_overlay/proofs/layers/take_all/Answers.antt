use Rattle.std.proofs.Common.{◌≡◌, ◌+◌, List, [], ◌∷◌, ◌++◌, take, sym, ap, ◌∙◌, subst}
use Rattle.std.proofs.lemmas.List.{take_more}
use Rattle.rk_types.specs.declared.held.Held.{Held}
use Rattle.rk_overlay.specs.Newest.{newest_from, with_newer}
use Rattle.rk_overlay.specs.Lent.{IsTreeOf}
use Rattle.rk_overlay.proofs.Folds.{newest_from-append}
use Rattle.rk_overlay.proofs.layers.take_all.Goals as goal

pub loop-item-preserved : goal.loop-item-preserved
loop-item-preserved c = λ found is_tree.
    let items : List Held = c.args.items.now in
    let item : Held = c.item-item.result in
    let more : take (c.loop-item.item-index + 1) items ≡ take c.loop-item.item-index items ++ item ∷ [] =
    take_more items c.loop-item.item-index item c.loop-item-test.true ∙ ap (λ (x : Held). take c.loop-item.item-index items ++ x ∷ []) (sym c.item-item.is) in
    let after : newest_from found (take (c.loop-item.item-index + 1) items) ≡ with_newer (newest_from found (take c.loop-item.item-index items)) item =
    ap (newest_from found) more ∙ newest_from-append found (take c.loop-item.item-index items) (item ∷ []) in
    subst (IsTreeOf c.take_in.new.newest) (sym after)
    (c.in_ok-take_in.ensures (newest_from found (take c.loop-item.item-index items)) (c.loop-item.invariant found is_tree))
