use Rattle.rk_master.proofs.Words.{sym, subst, Worked, CanBeSpelled, master_of}
use Rattle.rk_master.proofs.Rebuilt.{copy_gathered}
use Rattle.rk_master.proofs.rebuilds.take_copy.Goals as goal

pub go_on-requires-clause-lawful : goal.go_on-requires-clause-lawful
go_on-requires-clause-lawful c =
    subst (λ (worked : Worked). CanBeSpelled worked.master)
    (sym (copy_gathered (master_of c.args.state.now) (master_of c.gather.new.state) c.args.copy.now c.in_ok-awaited.awaited c.in_ok-awaited.ensures.awaited c.if-not-awaited.false
    c.in_ok-awaited.ensures.gathered))
    c.requires.lawful
