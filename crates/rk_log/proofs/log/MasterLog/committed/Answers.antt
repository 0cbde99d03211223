use Rattle.std.proofs.Common.{◌≤◌, ◌∙◌, length, sym, ap, subst}
use Rattle.rk_log.specs.Log.{Log, committed}
use Rattle.rk_log.specs.Parts.{parts_of}
use Rattle.rk_log.proofs.Views.{committed_of_is, committed_within}
use Rattle.rk_log.proofs.log.MasterLog.committed.Goals as goal

pub returns-clause-held : goal.returns-clause-held
returns-clause-held c =
    sym (committed_of_is (parts_of c.self.inside) c.self.invariant.consistent)
    ∙ ap committed c.self.view_is

pub returns-clause-within : goal.returns-clause-within
returns-clause-within c =
    subst (λ (log : Log). c.self.inside.committed ≤ length log.entries) c.self.view_is
    (committed_within (parts_of c.self.inside) c.self.invariant.consistent)
