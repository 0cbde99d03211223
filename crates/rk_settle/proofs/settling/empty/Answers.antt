use Rattle.rk_settle.proofs.Words.{◌++◌, ◌∷◌, ℕ, Option, sym, ap, ◌∙◌, on_ok_weaker, number_at, Task}
use Rattle.rk_settle.specs.Settle.{empty_by}
use Rattle.rk_settle.specs.declared.task.Task.TheVariants as tasks
use Rattle.rk_settle.proofs.settling.empty.Goals as goal

pub returns-in_default-clause-pushed : goal.returns-in_default-clause-pushed
returns-in_default-clause-pushed g c =
    λ w is.
    ap (λ (number : Option ℕ). empty_by c.args.lane number ++ c.args.tasks.now)
    (ap (number_at 1) (c.wire_of.ensures w is) ∙ sym c.oldest.ensures ∙ c.in_default.is)

pub returns-clause-pushed : goal.returns-clause-pushed
returns-clause-pushed g c =
    on_ok_weaker c.push_all.result
    (λ pushed w is.
    ap (λ (number : Option ℕ). empty_by c.args.lane number ++ c.args.tasks.now)
    (ap (number_at 1) (c.wire_of.ensures w is) ∙ sym c.oldest.ensures ∙ c.in-Some.is)
    ∙ ap (λ (forgets : Task). tasks.Delivers c.args.lane c.in-Some.number ∷ forgets ∷ tasks.Empties c.args.lane ∷ c.args.tasks.now) (sym c.forgets.ensures)
    ∙ sym pushed)
    c.push_all.ensures
