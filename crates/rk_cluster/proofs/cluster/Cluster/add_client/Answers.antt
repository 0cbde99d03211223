use Rattle.rk_cluster.proofs.Words.{length, refl, sym, ap, subst, ◌∙◌, arith, err_from_is_err_and, get, insert, each_insert, new_session}
use Rattle.rk_cluster.proofs.Words.{MayAct, cluster_of, MayAllAct, StepsEndWorn, Joins, [], ◌∷◌}
use Rattle.rk_world.specs.declared.event.Event.TheVariants as events
use Rattle.rk_cluster.proofs.Joining.{absent_none, all_short_before, all_worn, client_acts, client_free, client_full, client_taken, deeds_fit, deeds_in, ends_in, few, joins_short, many, new_acts}
use Rattle.rk_cluster.proofs.Faults.{counts_same}
use Rattle.rk_cluster.proofs.cluster.Cluster.add_client.Goals as goal

pub returns-then-has_session-clause-err : goal.returns-then-has_session-clause-err
returns-then-has_session-clause-err g c =
    (rw (← c.self.view_is) (client_taken _ (cluster_of c.self.inside) c.args.client (sym c.has_session.ensures ∙ c.if-has_session.true)), refl)

pub returns-then-count-ge-MOST_CLIENTS-clause-err : goal.returns-then-count-ge-MOST_CLIENTS-clause-err
returns-then-count-ge-MOST_CLIENTS-clause-err g c = (
  rw (← c.self.view_is) (client_full _ (cluster_of c.self.inside) c.args.client (sym c.has_session.ensures ∙ c.if-has_session.false)
      (many (length c.self.inside.sessions.entries) (omega (arith, c.count.ensures, c.if-count-ge-MOST_CLIENTS.true)))),
  refl,
)

pub act_all-requires-clause-may : goal.act_all-requires-clause-may
act_all-requires-clause-may g c =
    rw c.in_all_lanes-deeds.ensures
    (deeds_fit c.self.inside.masters _ (events.AddClient c.args.client) c.self.invariant.count tt (record { least_is = c.requires; fits = c.ranges.client.fits }))

pub returns-in_err-act_all-clause-err : goal.returns-in_err-act_all-clause-err
returns-in_err-act_all-clause-err g c =
    let lost = err_from_is_err_and c.from_residual.result c.from_residual.ensures.1 in
    let old = c.self.inside.lanes.items in
    let new = c.act_all.new.lanes.items in
    rw (lost.1, lost.2, ← c.self.view_is)
    (ends_in _ (StepsEndWorn g.R.Replica.segments old new (deeds_in (events.AddClient c.args.client))) _ _ _ _ _
    (client_free _ (cluster_of c.self.inside) c.args.client (sym c.has_session.ensures ∙ c.if-has_session.false)
    (few (length c.self.inside.sessions.entries) (omega (arith, c.count.ensures, c.if-count-ge-MOST_CLIENTS.false))))
    (λ number worn. all_worn _ old new c.self.inside.sessions.entries (events.AddClient c.args.client) (Joins c.args.client ∷ []) number c.self.invariant.count worn)
    (rw c.in_all_lanes-deeds.ensures at c.in_err-act_all.ensures.err)
    (all_short_before _ old new _ (events.AddClient c.args.client) (Joins c.args.client ∷ []) c.self.invariant.count
    (rw c.in_all_lanes-deeds.ensures at c.in_err-act_all.ensures.short)))

pub returns-in_err-put_session-clause-err : goal.returns-in_err-put_session-clause-err
returns-in_err-put_session-clause-err g c =
    let lost = err_from_is_err_and c.from_residual-in_err-put_session.result c.from_residual-in_err-put_session.ensures.1 in
    rw (lost.1, lost.2, ← c.self.view_is)
    (joins_short _ _ c.act_all.new.lanes.items _ c.put_session.new.sessions.entries c.args.client c.self.invariant.count
    c.in_err-put_session.ensures.err (rw c.in_all_lanes-deeds.ensures at c.in_ok-act_all.ensures.ok))

pub invariant_of-self-in_err-put_session : goal.invariant_of-self-in_err-put_session
invariant_of-self-in_err-put_session g c = record {
  count = c.act_all.ensures.count ∙ c.self.invariant.count;
  lanes = c.act_all.ensures.lanes;
  masters = c.self.invariant.masters;
  backups = c.act_all.ensures.backups ∙ c.self.invariant.backups;
  sessions = subst (MayAllAct c.self.inside.masters) (sym c.in_err-put_session.ensures.err) c.self.invariant.sessions;
}

pub invariant_of-self-2 : goal.invariant_of-self-2
invariant_of-self-2 g c = record {
  count = c.act_all.ensures.count ∙ c.self.invariant.count;
  lanes = c.act_all.ensures.lanes;
  masters = c.self.invariant.masters;
  backups = c.act_all.ensures.backups ∙ c.self.invariant.backups;
  sessions = subst (MayAllAct c.self.inside.masters) (sym (c.in_ok-put_session.ensures.ok ∙ ap (insert c.self.inside.sessions.entries c.args.client) c.new.ensures))
      (each_insert (λ client session. MayAct c.self.inside.masters session) c.self.inside.sessions.entries c.args.client (new_session c.args.client) c.self.invariant.sessions
      (new_acts c.self.inside.masters c.args.client c.requires c.ranges.client.fits));
}

pub returns-clause-ok : goal.returns-clause-ok
returns-clause-ok g c =
    let now = c.self.inside.sessions.entries in
    rw (c.nothing_said.ensures, ← c.self.view_is)
    (record {
      code = client_free _ (cluster_of c.self.inside) c.args.client (sym c.has_session.ensures ∙ c.if-has_session.false)
          (few (length now) (omega (arith, c.count.ensures, c.if-count-ge-MOST_CLIENTS.false)));
      acts = client_acts _ _ c.act_all.new.lanes.items now c.put_session.new.sessions.entries c.args.client
          (record { least_is = c.requires; fits = c.ranges.client.fits }) c.self.invariant.count
          (absent_none (get now c.args.client) (sym c.has_session.ensures ∙ c.if-has_session.false))
          (c.in_ok-put_session.ensures.ok ∙ ap (insert now c.args.client) c.new.ensures) (rw c.in_all_lanes-deeds.ensures at c.in_ok-act_all.ensures.ok);
    })

pub returns-then-has_session-clause-counts : goal.returns-then-has_session-clause-counts
returns-then-has_session-clause-counts g c = counts_same g.R.Replica.faults c.args.self.now

pub returns-then-count-ge-MOST_CLIENTS-clause-counts : goal.returns-then-count-ge-MOST_CLIENTS-clause-counts
returns-then-count-ge-MOST_CLIENTS-clause-counts g c = counts_same g.R.Replica.faults c.args.self.now
