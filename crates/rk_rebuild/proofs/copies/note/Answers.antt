use Rattle.rk_rebuild.proofs.Words.{◌++◌, sym, subst, Entry, items_in, HasVersions}
use Rattle.rk_rebuild.proofs.Versions.{version_noted}
use Rattle.rk_rebuild.proofs.copies.note.Goals as goal

pub returns-in_ok-insert-in-Held : goal.returns-in_ok-insert-in-Held
returns-in_ok-insert-in-Held c = λ items were.
    subst (λ (entry : Entry). HasVersions c.insert.new.self (items ++ items_in entry)) (sym c.in-Held.is)
    (version_noted c.args.versions.now c.insert.new.self items c.in-Held.held c.in_ok-insert-in-Held.ensures.updates were)
