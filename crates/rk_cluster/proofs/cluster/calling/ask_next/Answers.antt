use Rattle.rk_cluster.proofs.Words.{◌≡◌, None, Option, Some, IsSome, IsSomeAnd, refl, ap, sym, subst, ◌∙◌, on_err_weaker, on_ok_weaker, get}
use Rattle.rk_cluster.proofs.Words.{insert, each_insert, get_tree, in_order_tree, insert_tree, Session, MayAct, MayAllAct}
use Rattle.rk_cluster.proofs.Coming.{insert_there}
use Rattle.rk_cluster.proofs.cluster.calling.ask_next.Goals as goal

pub returns-clause-ok : goal.returns-clause-ok
returns-clause-ok c =
    let found : get c.args.sessions.now.entries c.args.client ≡ Some c.in-Some.session.now = get_tree c.args.sessions.now c.args.client ∙ sym c.in-Some.ensures.value in
    let later = c.ask.new.session in
    let written = c.get_mut.follows.holds later in
    let put = insert_tree c.args.sessions.now (c.get_mut.follows.lender later) c.args.client later c.in-Some.ensures.ordered written.4 (written.3 (subst IsSome c.in-Some.ensures.value refl)) in
    on_ok_weaker c.ask.result (λ asked. record { session = c.in-Some.session.now; found = found; free = subst (λ (it : Option Session). IsSomeAnd it (λ session. session.outstanding ≡ None)) found c.requires.there; asked = put ∙ ap (insert c.args.sessions.now.entries c.args.client) asked }) c.ask.ensures.ok

pub returns-clause-err : goal.returns-clause-err
returns-clause-err c =
    let found : get c.args.sessions.now.entries c.args.client ≡ Some c.in-Some.session.now = get_tree c.args.sessions.now c.args.client ∙ sym c.in-Some.ensures.value in
    let later = c.ask.new.session in
    let written = c.get_mut.follows.holds later in
    let put = insert_tree c.args.sessions.now (c.get_mut.follows.lender later) c.args.client later c.in-Some.ensures.ordered written.4 (written.3 (subst IsSome c.in-Some.ensures.value refl)) in
    on_err_weaker c.ask.result
    (λ same. put ∙ ap (insert c.args.sessions.now.entries c.args.client) same
    ∙ insert_there c.args.sessions.now.entries c.args.client c.in-Some.session.now (in_order_tree c.args.sessions.now c.in-Some.ensures.ordered) found)
    c.ask.ensures.err

pub returns-clause-acts : goal.returns-clause-acts
returns-clause-acts c =
    let later = c.ask.new.session in
    let written = c.get_mut.follows.holds later in
    let put = insert_tree c.args.sessions.now (c.get_mut.follows.lender later) c.args.client later c.in-Some.ensures.ordered written.4 (written.3 (subst IsSome c.in-Some.ensures.value refl)) in
    λ masters acts.
    let found : get c.args.sessions.now.entries c.args.client ≡ Some c.in-Some.session.now = get_tree c.args.sessions.now c.args.client ∙ sym c.in-Some.ensures.value in
    subst (MayAllAct masters) (sym put)
    (each_insert (λ client session. MayAct masters session) c.args.sessions.now.entries c.args.client later acts (c.ask.ensures.acts masters (acts c.args.client c.in-Some.session.now found)))
