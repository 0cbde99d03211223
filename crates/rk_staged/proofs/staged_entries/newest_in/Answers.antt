use Rattle.rk_staged.proofs.Words.{List, [], refl, ap, ◌∙◌, Entry, newest, items_of}
use Rattle.rk_staged.proofs.staged_entries.newest_in.Goals as goal

pub returns : goal.returns
returns c =
    c.newest_of-2.ensures c.as_slices.result.0.now (c.newest_of.ensures [] refl)
    ∙ ap (λ (entries : List Entry). newest (items_of entries) c.args.name.now.0 c.args.name.now.1) c.as_slices.ensures.items
