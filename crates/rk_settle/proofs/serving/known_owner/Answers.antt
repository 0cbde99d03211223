use Rattle.rk_settle.proofs.Words.{ℕ, Option, IfSome, sym, subst, IsMaster}
use Rattle.rk_settle.proofs.Found.{owner_there}
use Rattle.rk_settle.proofs.serving.known_owner.Goals as goal

pub returns-in-Some-clause-there : goal.returns-in-Some-clause-there
returns-in-Some-clause-there c =
    λ masters may. subst (λ (owner : Option ℕ). IfSome owner (IsMaster masters)) (sym c.known_owner.ensures) (owner_there masters c.in-Some.session.now (rw c.in-Some.is at may))
