use Rattle.rk_settle.proofs.Words.{subst, on_ok_weaker, masters_of, IsTask, Task}
use Rattle.rk_settle.proofs.unfolding.unfold.Goals as goal

pub returns-in-Sorts-clause-lawful : goal.returns-in-Sorts-clause-lawful
returns-in-Sorts-clause-lawful g c =
    let masters = masters_of c.args.cluster.now in
    on_ok_weaker c.sort.result (λ law. law masters (subst (λ (task : Task). IsTask masters task) c.in-Sorts.is c.requires.task) c.requires.left) c.sort.ensures.lawful

pub returns-in-Empties-clause-lawful : goal.returns-in-Empties-clause-lawful
returns-in-Empties-clause-lawful g c =
    let masters = masters_of c.args.cluster.now in
    on_ok_weaker c.empty.result (λ law. law masters (subst (λ (task : Task). IsTask masters task) c.in-Empties.is c.requires.task) c.requires.left) c.empty.ensures.lawful
