use Rattle.rk_settle.proofs.Words.{ℕ, List, All, sym, subst, on_ok_weaker, IsMaster, masters_of}
use Rattle.rk_settle.proofs.unfolding.turn.Goals as goal

pub returns-clause-lawful : goal.returns-clause-lawful
returns-clause-lawful g c =
    let masters = masters_of c.args.cluster.now in
    on_ok_weaker c.turns.result
    (λ law. law masters c.requires.there (subst (λ (live : List ℕ). All (IsMaster masters) live) (sym c.deref-2.ensures.value) c.in_ok-masters.ensures.there) c.requires.left)
    c.turns.ensures.lawful
