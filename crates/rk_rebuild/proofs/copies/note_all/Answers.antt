use Rattle.rk_rebuild.proofs.Words.{List, ◌++◌, take, sym, ap, ◌∙◌, subst, Held, items_in, items_of, lent, HasVersions}
use Rattle.std.proofs.Common.{append_assoc}
use Rattle.rk_rebuild.proofs.Versions.{lent_taken}
use Rattle.rk_rebuild.proofs.copies.note_all.Goals as goal

pub loop-entry-preserved : goal.loop-entry-preserved
loop-entry-preserved c = λ items were.
    let i = c.loop-entry.entry-index in
    let entries = c.args.entries.now in
    subst (HasVersions c.note.new.versions)
    (append_assoc items (items_of (lent (take i entries))) (items_in c.entry-item.result.now)
    ∙ ap (λ (xs : List Held). items ++ xs) (sym (lent_taken items_in entries i c.entry-item.result c.loop-entry-test.true c.entry-item.is)))
    (c.in_ok-note.ensures (items ++ items_of (lent (take i entries))) (c.loop-entry.invariant items were))
