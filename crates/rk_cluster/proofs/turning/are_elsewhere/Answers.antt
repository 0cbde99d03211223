use Rattle.rk_cluster.proofs.Words.{◌≡◌, ℕ, not, rules, tests, ◌∙◌, list_all, values, YieldsList-from_rest, all_from_yields_List}
use Rattle.rk_cluster.proofs.Words.{list_all-map, Session, is_call_in}
use Rattle.rk_cluster.proofs.turning.are_elsewhere.Goals as goal

pub returns : goal.returns
returns c =
    let all : c.all.result ≡ list_all (λ (session : Session). not (is_call_in c.args.lane session.outstanding)) (values c.args.sessions.now) =
    all_from_yields_List (λ (session : Session). not (is_call_in c.args.lane session.outstanding)) _ _ c.all.result c.all.ensures.ran
    (YieldsList-from_rest (values c.args.sessions.now) c.values.ensures.rest) (λ x b q k. search (rules, tests)) in
    all ∙ list_all-map (λ (session : Session). not (is_call_in c.args.lane session.outstanding)) (λ (entry : ℕ × Session). entry.1) c.args.sessions.now.entries
