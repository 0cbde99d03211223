use Rattle.rk_conclude.proofs.Words.{◌≡◌, [], fold, ap, subst, sym, ◌∙◌, into_iter_items, NumberMap, Session, MayAllAct, by_client}
use Rattle.rk_conclude.proofs.Words.{with_session}
use Rattle.std.proofs.lemmas.List.{nil_from_length}
use Rattle.rk_types.proofs.Trees.{empty_tree}
use Rattle.rk_conclude.proofs.Sessions.{may_by_client}
use Rattle.rk_conclude.proofs.ending.by_client.Goals as goal
use Rattle.rk_conclude.proofs.ending.by_client.Goals.{After-drop-session-iterator-2}

pub loop-session-init : goal.loop-session-init
loop-session-init c =
    (λ i. fold with_session (empty_tree c.new-map.result c.new-map.ensures.len i) (c.into_iter-session-iterator.ensures.into_iter_gives.0 i))

pub loop-session-preserved : goal.loop-session-preserved
loop-session-preserved c =
    let before = c.loop-session.map.entries in
    let rest = into_iter_items c.next.new.self in
    ap (λ (entries : NumberMap Session). fold with_session entries rest) c.in_ok-put_session.ensures
    ∙ ap (fold with_session before) (sym c.in-Some.ensures.steps.0)
    ∙ c.loop-session.invariant

-- no session is left
all_put : (c : After-drop-session-iterator-2) → c.loop-session.map.entries ≡ by_client c.args.sessions.items
all_put c =
    let left = c.loop-session.session-iterator in
    let none : into_iter_items left ≡ [] = nil_from_length (into_iter_items left) (sym left.rest.ok.0 ∙ c.in-None.ensures.steps.0) in
    ap (fold with_session c.loop-session.map.entries) (sym none) ∙ c.loop-session.invariant

pub returns-clause-sessions : goal.returns-clause-sessions
returns-clause-sessions c = all_put c

pub returns-clause-acts : goal.returns-clause-acts
returns-clause-acts c = λ masters all. subst (MayAllAct masters) (sym (all_put c)) (may_by_client masters c.args.sessions.items all)
