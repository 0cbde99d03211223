use Rattle.rk_settle.proofs.Words.{◌++◌, List, sym, ap, subst, ◌∙◌, All-append, on_ok_weaker, AreTasks, IsTask, Task}
use Rattle.rk_settle.proofs.settling.turns.Goals as goal

pub returns-clause-lawful : goal.returns-clause-lawful
returns-clause-lawful c =
    on_ok_weaker c.push_all.result
    (λ pushed count there are before.
    subst (AreTasks count) (sym (pushed ∙ ap (λ (turns : List Task). turns ++ c.args.tasks.now) c.deref.ensures.value))
    (All-append (IsTask count) c.in_ok-turns.turns.items c.args.tasks.now (c.in_ok-turns.ensures.lawful count there are) before))
    c.push_all.ensures
