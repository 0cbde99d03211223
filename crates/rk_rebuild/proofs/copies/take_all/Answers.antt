use Rattle.rk_rebuild.proofs.Words.{take, sym, ap, ◌∙◌, subst, items_in, items_of, lent}
use Rattle.rk_overlay.specs.Newest.{newest_from}
use Rattle.rk_overlay.specs.Lent.{IsTreeOf}
use Rattle.rk_overlay.proofs.Folds.{newest_from-append}
use Rattle.rk_rebuild.proofs.Versions.{lent_taken}
use Rattle.rk_rebuild.proofs.copies.take_all.Goals as goal

pub loop-entry-preserved : goal.loop-entry-preserved
loop-entry-preserved c = λ found is_tree.
    let i = c.loop-entry.entry-index in
    let entries = c.args.entries.now in
    let before = items_of (lent (take i entries)) in
    let entry = c.entry-item.result in
    subst (IsTreeOf c.take.new.newest)
    (sym (newest_from-append found before (items_in entry.now))
    ∙ ap (newest_from found) (sym (lent_taken items_in entries i entry c.loop-entry-test.true c.entry-item.is)))
    (c.in_ok-take.ensures (newest_from found before) (c.loop-entry.invariant found is_tree))
