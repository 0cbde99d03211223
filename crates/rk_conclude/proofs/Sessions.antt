-- Sessions under their clients.
use Rattle.rk_conclude.proofs.Words.{ℕ, List, [], ◌∷◌, All, fold, NumberMap, Session, MayAllAct, by_client, with_session}
use Rattle.std.proofs.lemmas.List.Elements.{All-head, All-tail}
use Rattle.rk_types.proofs.NumberMaps.{each_insert}
use Rattle.rk_world.specs.Premises.{MayAct}

-- some sessions may act in lanes, and then these may beside them
all_may : (masters : ℕ) (sessions : List Session) (before : NumberMap Session) → MayAllAct masters before → All (MayAct masters) sessions
    → MayAllAct masters (fold with_session before sessions)
all_may masters [] before each all = each
all_may masters (session ∷ sessions) before each all =
    all_may masters sessions (with_session before session)
    (each_insert (λ client it. MayAct masters it) before session.client session each (All-head (MayAct masters) session sessions all))
    (All-tail (MayAct masters) session sessions all)

-- sessions that may act in lanes may do so under their clients
pub may_by_client : (masters : ℕ) (sessions : List Session) → All (MayAct masters) sessions → MayAllAct masters (by_client sessions)
may_by_client masters sessions all = all_may masters sessions [] (λ client session found. absurd (cc found)) all
