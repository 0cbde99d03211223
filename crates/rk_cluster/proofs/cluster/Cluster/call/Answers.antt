use Rattle.rk_cluster.proofs.Words.{map, sum, calls_of, ◌≡◌, ℕ, Bool, true, false, Bor, List, Option, None, Some, is_some, refl, sym, ap}
use Rattle.rk_cluster.proofs.Words.{◌∙◌, inl, arith, err_from_is_err_and, option_copied, get, get_tree, Call, Row, Session, has_table}
use Rattle.rk_cluster.proofs.Calling.{call_by, call_lawful, call_unknown, calls, calls_few, calls_many, copied_some, tables_count}
use Rattle.rk_cluster.proofs.Worlds.{there_read}
use Rattle.rk_cluster.proofs.Faults.{counts_same, lanes_same}
use Rattle.rk_cluster.proofs.Shortage.{nothing_done, same_short}
use Rattle.rk_cluster.proofs.cluster.Cluster.call.Goals as goal

-- what was found of tables and calls
has_told : (rows list : List Row) (table : ℕ) (told : Bool) → list ≡ rows → told ≡ has_table list table → has_table rows table ≡ told
has_told rows list table told same is = ap (λ (all : List Row). has_table all table) (sym same) ∙ sym is

waits_told : (session : Session) (lent : Option (Bor Call)) (told : Bool) → option_copied lent ≡ session.outstanding → told ≡ is_some lent → is_some session.outstanding ≡ told
waits_told session lent told same is = ap (λ (call : Option Call). is_some call) (sym same) ∙ copied_some lent ∙ sym is

pub returns-in_default-clause-err : goal.returns-in_default-clause-err
returns-in_default-clause-err g c =
    let absent : get c.self.inside.sessions.entries c.args.client ≡ None = get_tree c.self.inside.sessions c.args.client ∙ sym c.in_default.ensures.value in
    (rw (← c.self.view_is) (call_unknown _ c.self.inside.lanes.items _ c.args.client c.args.table absent), refl)

pub returns-then-is_some-clause-err : goal.returns-then-is_some-clause-err
returns-then-is_some-clause-err g c =
    let lanes = c.self.inside.lanes.items in
    let now = c.self.inside.sessions.entries in
    let there = there_read lanes 0 c.index-first.result.now (omega (arith, c.self.invariant.count)) c.index-first.ensures in
    let found : get now c.args.client ≡ Some c.in-Some.session.now = get_tree c.self.inside.sessions c.args.client ∙ sym c.in-Some.ensures.value in
    let has = has_told c.rows.result.now c.rows-2.result.now c.args.table c.has_table.result c.rows-2.ensures.value c.has_table.ensures ∙ c.if-not-has_table.false in
    let waits = waits_told c.in-Some.session.now c.outstanding.result c.is_some.result c.outstanding.ensures c.is_some.ensures ∙ c.if-is_some.true in
    (rw (← c.self.view_is) (call_by _ lanes now c.args.client c.args.table _ _ _ true true _ there c.rows.ensures found has waits refl), refl)

pub returns-then-calls_asked-ge-MOST_CALLS-clause-err : goal.returns-then-calls_asked-ge-MOST_CALLS-clause-err
returns-then-calls_asked-ge-MOST_CALLS-clause-err g c =
    let lanes = c.self.inside.lanes.items in
    let now = c.self.inside.sessions.entries in
    let there = there_read lanes 0 c.index-first.result.now (omega (arith, c.self.invariant.count)) c.index-first.ensures in
    let found : get now c.args.client ≡ Some c.in-Some.session.now = get_tree c.self.inside.sessions c.args.client ∙ sym c.in-Some.ensures.value in
    let has = has_told c.rows.result.now c.rows-2.result.now c.args.table c.has_table.result c.rows-2.ensures.value c.has_table.ensures ∙ c.if-not-has_table.false in
    let waits = waits_told c.in-Some.session.now c.outstanding.result c.is_some.result c.outstanding.ensures c.is_some.ensures ∙ c.if-is_some.false in
    let many = calls_many (sum (map (λ (entry : ℕ × Session). calls_of entry.1) now)) c.calls_asked.result c.calls_asked.ensures c.if-calls_asked-ge-MOST_CALLS.true in
    (rw (← c.self.view_is) (call_by _ lanes now c.args.client c.args.table _ _ _ true false true there c.rows.ensures found has waits many), refl)

pub ask_next-requires-clause-table : goal.ask_next-requires-clause-table
ask_next-requires-clause-table g c =
    tables_count c.index-first.result.now c.rows.result.now c.args.table _ c.spent.ensures.spent c.if-spent.false c.spent.ensures.formed c.rows.ensures
    (has_told c.rows.result.now c.rows-2.result.now c.args.table c.has_table.result c.rows-2.ensures.value c.has_table.ensures ∙ c.if-not-has_table.false)

pub returns-clause-ok : goal.returns-clause-ok
returns-clause-ok g c =
    let lanes = c.self.inside.lanes.items in
    let now = c.self.inside.sessions.entries in
    let there = there_read lanes 0 c.index-first.result.now (omega (arith, c.self.invariant.count)) c.index-first.ensures in
    let found : get now c.args.client ≡ Some c.in-Some.session.now = get_tree c.self.inside.sessions c.args.client ∙ sym c.in-Some.ensures.value in
    let has = has_told c.rows.result.now c.rows-2.result.now c.args.table c.has_table.result c.rows-2.ensures.value c.has_table.ensures ∙ c.if-not-has_table.false in
    let waits = waits_told c.in-Some.session.now c.outstanding.result c.is_some.result c.outstanding.ensures c.is_some.ensures ∙ c.if-is_some.false in
    let few = calls_few (sum (map (λ (entry : ℕ × Session). calls_of entry.1) now)) c.calls_asked.result c.calls_asked.ensures (omega (arith, c.if-calls_asked-ge-MOST_CALLS.false)) in
    let asked = c.in_ok-ask_next.ensures.ok in
    rw (c.nothing_said.ensures, ← c.self.view_is)
    (record {
      code = call_by _ lanes now c.args.client c.args.table _ _ _ true false false there c.rows.ensures found has waits few;
      acts =
          calls _ lanes now _ _ _ _ _ asked
          (call_lawful g.R.Replica.segments lanes now _ _ _ _ _ asked c.self.inside.masters (c.ask_next.ensures.acts c.self.inside.masters c.self.invariant.sessions));
    })

pub invariant_of-self : goal.invariant_of-self
invariant_of-self g c = record {
  count = c.self.invariant.count;
  lanes = c.self.invariant.lanes;
  masters = c.self.invariant.masters;
  backups = c.self.invariant.backups;
  sessions = c.ask_next.ensures.acts c.self.inside.masters c.self.invariant.sessions;
}

pub invariant_of-self-2 : goal.invariant_of-self-2
invariant_of-self-2 g c = record {
  count = c.self.invariant.count;
  lanes = c.self.invariant.lanes;
  masters = c.self.invariant.masters;
  backups = c.self.invariant.backups;
  sessions = c.ask_next.ensures.acts c.self.inside.masters c.self.invariant.sessions;
}

pub returns-then-spent-clause-counts : goal.returns-then-spent-clause-counts
returns-then-spent-clause-counts g c = counts_same g.R.Replica.faults c.args.self.now

pub returns-in_default-clause-counts : goal.returns-in_default-clause-counts
returns-in_default-clause-counts g c = counts_same g.R.Replica.faults c.args.self.now

pub returns-then-not-has_table-clause-counts : goal.returns-then-not-has_table-clause-counts
returns-then-not-has_table-clause-counts g c = counts_same g.R.Replica.faults c.args.self.now

pub returns-then-is_some-clause-counts : goal.returns-then-is_some-clause-counts
returns-then-is_some-clause-counts g c = counts_same g.R.Replica.faults c.args.self.now

pub returns-then-calls_asked-ge-MOST_CALLS-clause-counts : goal.returns-then-calls_asked-ge-MOST_CALLS-clause-counts
returns-then-calls_asked-ge-MOST_CALLS-clause-counts g c = counts_same g.R.Replica.faults c.args.self.now

pub returns-in_err-ask_next-clause-counts : goal.returns-in_err-ask_next-clause-counts
returns-in_err-ask_next-clause-counts g c = rw (← c.self.view_is) (lanes_same g.R.Replica.faults c.self.inside.lanes.items)

pub returns-clause-counts : goal.returns-clause-counts
returns-clause-counts g c = rw (← c.self.view_is) (lanes_same g.R.Replica.faults c.self.inside.lanes.items)

pub returns-then-spent-clause-err : goal.returns-then-spent-clause-err
returns-then-spent-clause-err g c = nothing_done _ _ _ _ (same_short c.args.self.now)

pub returns-in_err-ask_next-clause-err : goal.returns-in_err-ask_next-clause-err
returns-in_err-ask_next-clause-err g c =
    let lost = err_from_is_err_and c.from_residual.result c.from_residual.ensures.1 in
    rw (lost.1, lost.2, ← c.self.view_is) (nothing_done _ _ _ _ (record { lanes = inl refl; sessions = inl c.in_err-ask_next.ensures.err }))
