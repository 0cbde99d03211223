use Rattle.rk_staged.proofs.Words.{◌≡◌, ◌+◌, List, [], ◌∷◌, ◌++◌, take, append_assoc, sym, ap, ◌∙◌, option_copied, Entry, newest, items_of}
use Rattle.std.proofs.lemmas.List.{take_more}
use Rattle.rk_staged.proofs.Keeping.{newest_pushed}
use Rattle.rk_staged.proofs.staged_entries.newest_of.Goals as goal

pub loop-entry-preserved : goal.loop-entry-preserved
loop-entry-preserved c = λ before was.
    let all : List Entry = c.args.entries.now in
    let entry : Entry = c.entry-item.result in
    let more : take (c.loop-entry.entry-index + 1) all ≡ take c.loop-entry.entry-index all ++ entry ∷ [] =
    take_more all c.loop-entry.entry-index entry c.loop-entry-test.true ∙ ap (λ (x : Entry). take c.loop-entry.entry-index all ++ x ∷ []) (sym c.entry-item.is) in
    c.newer-best.ensures
    ∙ newest_pushed (before ++ take c.loop-entry.entry-index all) entry (option_copied c.loop-entry.best) c.args.name.now.0 c.args.name.now.1 (c.loop-entry.invariant before was)
    ∙ ap (λ (entries : List Entry). newest (items_of entries) c.args.name.now.0 c.args.name.now.1)
    (append_assoc before (take c.loop-entry.entry-index all) (entry ∷ []) ∙ ap (λ (l : List Entry). before ++ l) (sym more))
