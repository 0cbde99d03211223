use Rattle.rk_settle.proofs.Words.{subst, on_ok_weaker, masters_of, IsTask, Task}
use Rattle.rk_settle.proofs.unfolding.unfold_migrating.Goals as goal

pub returns-in-Advances-clause-lawful : goal.returns-in-Advances-clause-lawful
returns-in-Advances-clause-lawful g c =
    let masters = masters_of c.args.cluster.now in
    on_ok_weaker c.advance.result (λ law. law masters (subst (λ (task : Task). IsTask masters task) c.in-Advances.is c.requires.task) c.requires.left) c.advance.ensures.lawful
