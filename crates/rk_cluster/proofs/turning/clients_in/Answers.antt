use Rattle.rk_cluster.proofs.Words.{ℕ, ◌++◌, ◌∷◌, [], Bool, List, cond, ap, sym, ◌∙◌, append-nil, NumberMap, Session, clients_in}
use Rattle.rk_cluster.proofs.Takers.{client_next}
use Rattle.rk_cluster.proofs.turning.clients_in.Goals as goal

pub loop-client-preserved : goal.loop-client-preserved
loop-client-preserved c =
    let items = c.loop-client.clients.items in
    ap (λ (list : List ℕ). list ++ clients_in c.args.lane c.next.new.self)
    (c.in_ok-push_where.ensures ∙ ap (λ (b : Bool). items ++ cond b (c.in-Some.client.now ∷ []) []) c.is_asking_in.ensures)
    ∙ client_next c.args.lane c.in-Some.client.now c.in-Some.session.now c.loop-client.client-iterator c.next.new.self items c.in-Some.ensures.steps
    ∙ c.loop-client.invariant

pub returns : goal.returns
returns c =
    let items = c.loop-client.clients.items in
    sym (append-nil items)
    ∙ ap (λ (rest : NumberMap Session). items ++ clients_in c.args.lane rest) (sym c.in-None.ensures.steps.0)
    ∙ c.loop-client.invariant
