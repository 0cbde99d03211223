use Rattle.rk_settle.proofs.Words.{sym, subst, take, IsMaster, AreTasks}
use Rattle.std.proofs.lemmas.List.Elements.{All-take}
use Rattle.rk_settle.proofs.Named.{turns_are}
use Rattle.rk_settle.proofs.settling.turns_of.Goals as goal

pub returns-clause-lawful : goal.returns-clause-lawful
returns-clause-lawful c =
    λ count there are.
    subst (AreTasks count) (sym c.loop-master.invariant)
    (turns_are count c.args.lane c.args.clients.now (take c.loop-master.master-index c.args.masters.now) there
    (All-take (IsMaster count) c.loop-master.master-index c.args.masters.now are))
