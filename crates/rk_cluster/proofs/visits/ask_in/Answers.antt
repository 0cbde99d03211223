use Rattle.rk_cluster.proofs.Words.{◌≡◌, ℕ, inl, inr, Option, None, Some, IsSome, refl, sym, subst, ◌∙◌, on_ok_weaker, IfErr-weaker, get}
use Rattle.rk_cluster.proofs.Words.{each_insert, get_tree, in_order_tree, insert_tree, MayAct}
use Rattle.rk_cluster.proofs.Coming.{asks, asks_lane, has_after}
use Rattle.rk_cluster.proofs.Heard.{IsHeard, heard_ends, heard_well}
use Rattle.rk_cluster.proofs.Shortage.{kept_short, on_err_from, turned_short}
use Rattle.rk_cluster.proofs.Worlds.{counts_set, lane_set, masters_at, there_read}
use Rattle.rk_world.specs.Calls as calls
use Rattle.rk_cluster.proofs.Failing.{lanes_visited}
use Rattle.rk_cluster.proofs.visits.ask_in.Goals as goal
use Rattle.std.proofs.Math.ListN.{length-set}

pub ask-answer-requires : goal.ask-answer-requires
ask-answer-requires g c =
    let there = there_read _ _ _ c.requires.there c.index_mut-at.ensures.value in
    let found : get c.args.sessions.now.entries c.args.client ≡ Some c.in-Some.session.now = get_tree c.args.sessions.now c.args.client ∙ sym c.in-Some.ensures.value in
    rw (masters_at c.args.masters 0 _ _ _ there c.requires.lanes) (c.requires.acts c.args.client c.in-Some.session.now found)

pub returns : goal.returns
returns g c =
    let there = there_read _ _ _ c.requires.there c.index_mut-at.ensures.value in
    let now = c.args.sessions.now.entries in
    let session = c.in-Some.session.now in
    let found : get now c.args.client ≡ Some session = get_tree c.args.sessions.now c.args.client ∙ sym c.in-Some.ensures.value in
    let later = c.ask-answer.new.session in
    let written = c.get_mut.follows.holds later in
    let put = insert_tree c.args.sessions.now (c.get_mut.follows.lender later) c.args.client later c.in-Some.ensures.ordered written.4 (written.3 (subst IsSome c.in-Some.ensures.value refl)) in
    let order = in_order_tree c.args.sessions.now c.in-Some.ensures.ordered in
    let its = c.ask-answer.ensures in
    let acts = λ (broken : Option ℕ) (heard : IsHeard c.ask-answer.result broken).
    rw heard.worn at (asks g.R.Replica.segments c.args.lanes.now.items now c.args.lane c.args.client c.index_mut-at.result.now c.ask-answer.new.self session later c.ask-answer.result
    there found order
    (asks_lane g.R.Replica.segments c.index_mut-at.result.now c.ask-answer.new.self session later c.ask-answer.result heard.memory its.ok its.refused its.kept its.session)) in
    record {
      ok = on_ok_weaker c.heard.result (λ well. rw put (acts None (heard_well c.ask-answer.result well))) c.heard.ensures.ok;
      err = IfErr-weaker c.heard.result _ _ (λ e failed. heard_ends _ c.ask-answer.result e failed (λ number heard.
          rw put (acts (Some number) heard))) c.heard.ensures.err;
      short = on_err_from c.heard.result _ (λ e failed. record {
        lanes = inl (kept_short _ _ _ _ c.ask-answer.result e there its.kept failed);
        sessions = inr (rw put (turned_short now c.args.client session later c.ask-answer.result e found its.turned failed));
      }) c.heard.ensures.err;
      lanes = lane_set c.args.masters 0 _ _ _ _ there its.lane c.requires.lanes;
      count = length-set _ _ _;
      backups = counts_set _ _ _ _ there its.lane;
      counts = lanes_visited g.R.Replica.faults _ _ _ _ there (λ w. calls.ask w session) later _ its.ok its.kept;
      acts = rw put (each_insert (λ client session. MayAct c.args.masters session) now c.args.client later c.requires.acts
          (subst (λ (count : ℕ). MayAct count later) (its.lane.masters ∙ masters_at c.args.masters 0 _ _ _ there c.requires.lanes) its.acts));
      clients = λ other has. rw put (has_after now c.args.client later other has);
    }
