use Rattle.rk_cluster.proofs.Words.{List, All, IsDeed, Deed, sym, subst, length, refl, ap, ◌∙◌, arith, err_from_is_err_and, EndsWorn, StepsEndWorn, occurrences, state_of}
use Rattle.rk_cluster.proofs.Words.{turns_of, all_ask}
use Rattle.rk_cluster.proofs.Joining.{ends_in}
use Rattle.rk_cluster.proofs.Shortage.{before_short, behind_short, nothing_done, same_short}
use Rattle.rk_cluster.proofs.Takers.{clients_have, turns_fit}
use Rattle.rk_cluster.proofs.Turned.{asking_stops, turn_done, turn_short, turns_stop}
use Rattle.rk_cluster.proofs.Worlds.{masters_at, there_read}
use Rattle.rk_cluster.proofs.Faults.{counts_same, lanes_then}
use Rattle.rk_cluster.proofs.cluster.Cluster.turn.Goals as goal

pub live_in-requires : goal.live_in-requires
live_in-requires g c =
    let lanes = c.self.inside.lanes.items in
    masters_at c.self.inside.masters 0 lanes c.args.lane c.index.result.now (there_read lanes c.args.lane c.index.result.now (omega (arith, c.requires, c.self.invariant.count)) c.index.ensures)
    c.self.invariant.lanes

pub ask_all-requires-clause-clients : goal.ask_all-requires-clause-clients
ask_all-requires-clause-clients g c =
    rw (c.deref-2.ensures.value, c.in_ok-clients.ensures) (clients_have c.args.lane c.self.inside.sessions.entries)

pub returns-in_err-ask_all-clause-err : goal.returns-in_err-ask_all-clause-err
returns-in_err-ask_all-clause-err g c =
    let lost = err_from_is_err_and c.from_residual-in_err-ask_all.result c.from_residual-in_err-ask_all.ensures.1 in
    let lanes = c.self.inside.lanes.items in
    let now = c.self.inside.sessions.entries in
    let mid = c.ask_all.new.lanes.items in
    let later = c.ask_all.new.sessions.entries in
    let clients = c.deref-2.result.now in
    let live = c.in_ok-live.live.items in
    let turns = turns_of c.args.lane live in
    let asked = c.deref-2.ensures.value ∙ c.in_ok-clients.ensures in
    let there = there_read lanes c.args.lane c.index.result.now (omega (arith, c.requires, c.self.invariant.count)) c.index.ensures in
    rw (lost.1, lost.2, ← c.self.view_is)
    (ends_in _ (EndsWorn g.R.Replica.segments (state_of lanes now) (state_of mid later) (all_ask c.args.lane clients)) _ _ _ _ _ (λ cluster is. refl)
    (asking_stops _ lanes now c.args.lane _ live there c.in_ok-live.ensures.live mid mid later clients turns asked refl) c.in_err-ask_all.ensures.err
    (turn_short _ lanes now c.args.lane _ live there c.in_ok-live.ensures.live mid mid later clients turns asked refl (state_of mid later)
    (before_short _ _ _ (all_ask c.args.lane clients) (occurrences turns) c.in_err-ask_all.ensures.short)))

pub act_all-requires-clause-may : goal.act_all-requires-clause-may
act_all-requires-clause-may g c =
    let many = c.ask_all.new.lanes.items in
    subst (λ (deeds : List Deed). All (IsDeed (length many) c.self.inside.masters) deeds)
    (sym (c.deref-3.ensures.value ∙ c.in_ok-turns.ensures ∙ ap (turns_of c.args.lane) c.deref.ensures.value))
    (turns_fit (length many) c.self.inside.masters c.args.lane c.in_ok-live.live.items (omega (arith, c.requires, c.self.invariant.count, c.ask_all.ensures.count)) c.in_ok-live.ensures.there)

pub returns-in_err-act_all-clause-err : goal.returns-in_err-act_all-clause-err
returns-in_err-act_all-clause-err g c =
    let lost = err_from_is_err_and c.from_residual-in_err-act_all.result c.from_residual-in_err-act_all.ensures.1 in
    let lanes = c.self.inside.lanes.items in
    let now = c.self.inside.sessions.entries in
    let mid = c.ask_all.new.lanes.items in
    let new = c.act_all.new.lanes.items in
    let later = c.ask_all.new.sessions.entries in
    let clients = c.deref-2.result.now in
    let deeds = c.deref-3.result.now in
    let live = c.in_ok-live.live.items in
    let asked = c.deref-2.ensures.value ∙ c.in_ok-clients.ensures in
    let made = c.deref-3.ensures.value ∙ c.in_ok-turns.ensures ∙ ap (turns_of c.args.lane) c.deref.ensures.value in
    let there = there_read lanes c.args.lane c.index.result.now (omega (arith, c.requires, c.self.invariant.count)) c.index.ensures in
    rw (lost.1, lost.2, ← c.self.view_is)
    (ends_in _ (StepsEndWorn g.R.Replica.segments mid new deeds) _ _ _ _ _ (λ cluster is. refl)
    (λ number worn. turns_stop _ lanes now c.args.lane _ live there c.in_ok-live.ensures.live mid new later clients deeds asked made number c.in_ok-ask_all.ensures.ok worn)
    c.in_err-act_all.ensures.err
    (turn_short _ lanes now c.args.lane _ live there c.in_ok-live.ensures.live mid new later clients deeds asked made (state_of new later)
    (behind_short _ _ (state_of mid later) _ (all_ask c.args.lane clients) (occurrences deeds) c.in_ok-ask_all.ensures.ok (c.in_err-act_all.ensures.short later))))

pub returns-clause-ok : goal.returns-clause-ok
returns-clause-ok g c =
    let lanes = c.self.inside.lanes.items in
    let now = c.self.inside.sessions.entries in
    let asked = c.deref-2.ensures.value ∙ c.in_ok-clients.ensures in
    let made = c.deref-3.ensures.value ∙ c.in_ok-turns.ensures ∙ ap (turns_of c.args.lane) c.deref.ensures.value in
    let there = there_read lanes c.args.lane c.index.result.now (omega (arith, c.requires, c.self.invariant.count)) c.index.ensures in
    rw (c.nothing_said.ensures, ← c.self.view_is)
    (record {
      code = λ cluster is. refl;
      acts = turn_done _ lanes now c.args.lane _ c.in_ok-live.live.items there c.in_ok-live.ensures.live c.ask_all.new.lanes.items _ c.ask_all.new.sessions.entries
          c.deref-2.result.now c.deref-3.result.now asked made c.in_ok-ask_all.ensures.ok c.in_ok-act_all.ensures.ok;
    })

pub returns-in_err-clients-clause-counts : goal.returns-in_err-clients-clause-counts
returns-in_err-clients-clause-counts g c = counts_same g.R.Replica.faults c.args.self.now

pub returns-in_err-live-clause-counts : goal.returns-in_err-live-clause-counts
returns-in_err-live-clause-counts g c = counts_same g.R.Replica.faults c.args.self.now

pub returns-in_err-turns-clause-counts : goal.returns-in_err-turns-clause-counts
returns-in_err-turns-clause-counts g c = counts_same g.R.Replica.faults c.args.self.now

pub returns-in_err-act_all-clause-counts : goal.returns-in_err-act_all-clause-counts
returns-in_err-act_all-clause-counts g c = rw (← c.self.view_is) (lanes_then g.R.Replica.faults _ _ _ c.ask_all.ensures.counts c.act_all.ensures.counts)

pub returns-clause-counts : goal.returns-clause-counts
returns-clause-counts g c = rw (← c.self.view_is) (lanes_then g.R.Replica.faults _ _ _ c.ask_all.ensures.counts c.act_all.ensures.counts)

pub returns-in_err-clients-clause-err : goal.returns-in_err-clients-clause-err
returns-in_err-clients-clause-err g c =
    let lost = err_from_is_err_and c.from_residual.result c.from_residual.ensures.1 in
    rw (lost.1, lost.2) (nothing_done _ _ _ _ (same_short c.args.self.now))

pub returns-in_err-live-clause-err : goal.returns-in_err-live-clause-err
returns-in_err-live-clause-err g c =
    let lost = err_from_is_err_and c.from_residual-in_err-live.result c.from_residual-in_err-live.ensures.1 in
    rw (lost.1, lost.2) (nothing_done _ _ _ _ (same_short c.args.self.now))

pub returns-in_err-turns-clause-err : goal.returns-in_err-turns-clause-err
returns-in_err-turns-clause-err g c =
    let lost = err_from_is_err_and c.from_residual-in_err-turns.result c.from_residual-in_err-turns.ensures.1 in
    rw (lost.1, lost.2) (nothing_done _ _ _ _ (same_short c.args.self.now))
