use Rattle.std.proofs.Common.{ap, ◌∙◌, Option}
use Rattle.rk_staged.specs.declared.staged_entries.Kept.{Kept}
use Rattle.rk_staged.specs.Kept.{kept_with}
use Rattle.rk_staged.proofs.Keeping.{kept_added}
use Rattle.rk_staged.proofs.staged_entries.StagedEntries.add.Goals as goal

pub returns-clause-ok : goal.returns-clause-ok
returns-clause-ok c = λ items was.
    kept_added c.args.self.now.newest c.insert.new.self c.args.item.now items c.in_ok-duplicate.field-0 c.in_ok-kept.kept c.in_ok-duplicate.ensures
    c.in_ok-insert.ensures.updates (c.in_ok-kept.ensures ∙ ap (λ (o : Option Kept). kept_with o c.args.item.now) c.look.ensures) was
