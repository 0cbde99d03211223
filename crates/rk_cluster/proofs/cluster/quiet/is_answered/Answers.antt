use Rattle.rk_cluster.proofs.Words.{◌≡◌, ℕ, is_none, rules, tests, ◌∙◌, list_all, values, YieldsList-from_rest, all_from_yields_List}
use Rattle.rk_cluster.proofs.Words.{list_all-map, Session}
use Rattle.rk_cluster.proofs.cluster.quiet.is_answered.Goals as goal

pub returns : goal.returns
returns c =
    let all : c.all.result ≡ list_all (λ (session : Session). is_none session.outstanding) (values c.args.sessions.now) =
    all_from_yields_List (λ (session : Session). is_none session.outstanding) _ _ c.all.result c.all.ensures.ran
    (YieldsList-from_rest (values c.args.sessions.now) c.values.ensures.rest) (λ x b q k. search (rules, tests)) in
    all ∙ list_all-map (λ (session : Session). is_none session.outstanding) (λ (entry : ℕ × Session). entry.1) c.args.sessions.now.entries
