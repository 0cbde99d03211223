use Rattle.rk_staged.proofs.Words.{◌≡◌, ◌∷◌, Some, sym, ◌∙◌, items_of}
use Rattle.rk_staged.specs.Kept.{kept}
use Rattle.rk_staged.proofs.Keeping.{kept_subtracted, kept_some, is_named}
use Rattle.rk_staged.proofs.staged_entries.StagedEntries.subtract.Goals as goal

pub returns-in-Some-clause-kept : goal.returns-in-Some-clause-kept
returns-in-Some-clause-kept c = λ item its_table its_key its_version was.
    let old_is : Some c.in-Some.old ≡ kept (item ∷ items_of c.args.self.now.entries.items) c.args.name.now.0 c.args.name.now.1 = sym c.in-Some.is ∙ c.look.ensures ∙ was c.args.name.now.0 c.args.name.now.1 in
    kept_subtracted c.args.self.now.newest c.put.new.self.newest c.args.name.now item (items_of c.args.self.now.entries.items) c.left-kept.result its_table its_key c.put.ensures.updates
    (c.left-kept.ensures item its_table its_key its_version old_is) was

pub returns-in_default-clause-kept : goal.returns-in_default-clause-kept
returns-in_default-clause-kept c = λ item its_table its_key its_version was.
    absurd (kept_some item (items_of c.args.self.now.entries.items) c.args.name.now.0 c.args.name.now.1 (is_named c.args.name.now.0 c.args.name.now.1 item its_table its_key)
    (sym c.in_default.is ∙ c.look.ensures ∙ was c.args.name.now.0 c.args.name.now.1))
