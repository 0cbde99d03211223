use Rattle.rk_cluster.proofs.Words.{◌≡◌, ℕ, Some, IsSome, refl, sym, subst, ◌∙◌, IfOk-weaker, get, each_insert, get_tree, in_order_tree}
use Rattle.rk_cluster.proofs.Words.{insert_tree, MayAct}
use Rattle.rk_cluster.proofs.Coming.{accepts, accepts_lane, accepts_short, has_after}
use Rattle.rk_cluster.proofs.Heard.{heard_well}
use Rattle.rk_cluster.proofs.Shortage.{on_err_anyway}
use Rattle.rk_cluster.proofs.Worlds.{counts_set, lane_set, masters_at, there_read}
use Rattle.rk_world.specs.Calls as calls
use Rattle.rk_cluster.proofs.Failing.{lanes_visited}
use Rattle.rk_cluster.proofs.visits.accept_in.Goals as goal

pub take-answer-requires-clause-arrives : goal.take-answer-requires-clause-arrives
take-answer-requires-clause-arrives g c = c.requires.arrives _ (there_read _ _ _ c.requires.there c.index_mut-at.ensures.value)

pub take-answer-requires-clause-acts : goal.take-answer-requires-clause-acts
take-answer-requires-clause-acts g c =
    let there = there_read _ _ _ c.requires.there c.index_mut-at.ensures.value in
    let found : get c.args.sessions.now.entries c.args.client ≡ Some c.in-Some.session.now = get_tree c.args.sessions.now c.args.client ∙ sym c.in-Some.ensures.value in
    rw (masters_at c.args.masters 0 _ _ _ there c.requires.lanes) (c.requires.acts c.args.client c.in-Some.session.now found)

pub returns-clause-ok : goal.returns-clause-ok
returns-clause-ok g c =
    let there = there_read _ _ _ c.requires.there c.index_mut-at.ensures.value in
    let session = c.in-Some.session.now in
    let found : get c.args.sessions.now.entries c.args.client ≡ Some session = get_tree c.args.sessions.now c.args.client ∙ sym c.in-Some.ensures.value in
    let later = c.take-answer.new.session in
    let written = c.get_mut.follows.holds later in
    let put = insert_tree c.args.sessions.now (c.get_mut.follows.lender later) c.args.client later c.in-Some.ensures.ordered written.4 (written.3 (subst IsSome c.in-Some.ensures.value refl)) in
    let order = in_order_tree c.args.sessions.now c.in-Some.ensures.ordered in
    let its = c.take-answer.ensures in
    IfOk-weaker c.tell.result _ _ (λ said telling.
    let heard = heard_well c.take-answer.result telling.well in
    let acts =
    accepts g.R.Replica.segments c.args.lanes.now.items c.args.sessions.now.entries c.args.lane c.args.arrival.number c.args.client c.index_mut-at.result.now
    c.take-answer.new.self session later c.take-answer.result there found order
    (accepts_lane g.R.Replica.segments c.args.arrival.number c.index_mut-at.result.now c.take-answer.new.self session later c.take-answer.result heard.memory its.ok
    its.refused its.kept its.session) in
    rw put (rw (← telling.said session.outstanding (sym c.asked_by-asked.ensures), heard.worn) at acts))
    c.tell.ensures.ok

pub returns-clause-short : goal.returns-clause-short
returns-clause-short g c =
    let there = there_read _ _ _ c.requires.there c.index_mut-at.ensures.value in
    let session = c.in-Some.session.now in
    let found : get c.args.sessions.now.entries c.args.client ≡ Some session = get_tree c.args.sessions.now c.args.client ∙ sym c.in-Some.ensures.value in
    let later = c.take-answer.new.session in
    let written = c.get_mut.follows.holds later in
    let put = insert_tree c.args.sessions.now (c.get_mut.follows.lender later) c.args.client later c.in-Some.ensures.ordered written.4 (written.3 (subst IsSome c.in-Some.ensures.value refl)) in
    let its = c.take-answer.ensures in
    on_err_anyway c.tell.result
    (rw put (accepts_short g.R.Replica.segments _ _ _ c.args.arrival.number _ _ _ session later c.take-answer.result there found
    (in_order_tree c.args.sessions.now c.in-Some.ensures.ordered) its.ok its.refused its.kept its.session))

pub returns-clause-lanes : goal.returns-clause-lanes
returns-clause-lanes g c =
    lane_set c.args.masters 0 _ _ _ _ (there_read _ _ _ c.requires.there c.index_mut-at.ensures.value) c.take-answer.ensures.lane c.requires.lanes

pub returns-clause-backups : goal.returns-clause-backups
returns-clause-backups g c = counts_set _ _ _ _ (there_read _ _ _ c.requires.there c.index_mut-at.ensures.value) c.take-answer.ensures.lane

pub returns-clause-acts : goal.returns-clause-acts
returns-clause-acts g c =
    let there = there_read _ _ _ c.requires.there c.index_mut-at.ensures.value in
    let later = c.take-answer.new.session in
    let written = c.get_mut.follows.holds later in
    let put = insert_tree c.args.sessions.now (c.get_mut.follows.lender later) c.args.client later c.in-Some.ensures.ordered written.4 (written.3 (subst IsSome c.in-Some.ensures.value refl)) in
    rw put (each_insert (λ client session. MayAct c.args.masters session) c.args.sessions.now.entries c.args.client later c.requires.acts
    (subst (λ (count : ℕ). MayAct count later) (c.take-answer.ensures.lane.masters ∙ masters_at c.args.masters 0 _ _ _ there c.requires.lanes)
    c.take-answer.ensures.acts))

pub returns-clause-clients : goal.returns-clause-clients
returns-clause-clients g c =
    let later = c.take-answer.new.session in
    let written = c.get_mut.follows.holds later in
    let put = insert_tree c.args.sessions.now (c.get_mut.follows.lender later) c.args.client later c.in-Some.ensures.ordered written.4 (written.3 (subst IsSome c.in-Some.ensures.value refl)) in
    λ other has. rw put (has_after c.args.sessions.now.entries c.args.client later other has)

pub returns-clause-counts : goal.returns-clause-counts
returns-clause-counts g c =
    lanes_visited g.R.Replica.faults _ _ _ _ (there_read _ _ _ c.requires.there c.index_mut-at.ensures.value) (λ w. calls.accept w c.args.arrival.number c.in-Some.session.now)
    c.take-answer.new.session _ c.take-answer.ensures.ok c.take-answer.ensures.kept
