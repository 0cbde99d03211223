use Rattle.rk_settle.proofs.Words.{sym, subst, ◌∙◌, ◌++◌, All-append, All-cons, on_ok_weaker, AreTasks, IsTask}
use Rattle.rk_settle.specs.declared.task.Task.TheVariants as tasks
use Rattle.rk_settle.proofs.exchange.sort.Goals as goal

pub returns-clause-lawful : goal.returns-clause-lawful
returns-clause-lawful c =
    let hands = tasks.Hands c.args.lane c.args.topic c.args.from in
    on_ok_weaker c.push_all.result
    (λ pushed masters there before.
    subst (AreTasks masters) (sym (pushed ∙ (λ i. c.deref.ensures.value i ++ c.in_ok-push.ensures i)))
    (All-append (IsTask masters) c.in_ok-off.off.items _ (c.in_ok-off.ensures.lawful masters there) (All-cons (IsTask masters) hands c.args.tasks.now there before)))
    c.push_all.ensures
