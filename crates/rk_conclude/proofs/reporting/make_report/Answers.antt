use Rattle.rk_conclude.proofs.Words.{◌≡◌, ◌++◌, Bor, List, Option, length, sym, ap, subst, ◌∙◌, arith, option_copied, length-map, Placed}
use Rattle.rk_conclude.proofs.Words.{Receipt, journals_of, LaneState, receipts_in, result_lines, Ledger, Audits, audit_line, history_part}
use Rattle.rk_conclude.proofs.Ledgers.{same_in_each}
use Rattle.rk_conclude.proofs.Reported.{added, reported}
use Rattle.rk_conclude.proofs.reporting.make_report.Goals as goal

pub push_part-requires-clause-few : goal.push_part-requires-clause-few
push_part-requires-clause-few g c =
    let lent : List (Bor (List Placed)) = c.in_ok-journals.journals.items in
    let many = ap (λ (list : List (List Placed)). length list) c.in_ok-journals.ensures.journals in
    omega (
      arith,
      many,
      length-map lent (λ (journal : Bor (List Placed)). journal.now),
      length-map c.args.lanes.now (λ (lane : LaneState g.row.R.Denot). lane.ledger.journal),
      c.requires,
      ap (λ (list : List (Bor (List Placed))). length list) c.as_slice-2.ensures.value,
    )

pub returns-clause-report : goal.returns-clause-report
returns-clause-report g c = λ cluster is.
    let lent : List (Bor (List Placed)) = c.in_ok-journals.journals.items in
    let sessions = c.args.sessions.now.entries in
    let wrong : Option Receipt = option_copied c.first_wrong-wrong.result in
    let history = c.args.history in
    let results = c.in_ok-results.results in
    reported history cluster (journals_of lent) (receipts_in sessions) results wrong c.push_audit.new.text.items c.status_of.result
    (c.in_ok-journals.ensures.journals ∙ sym (same_in_each g.R.Replica.segments (λ (ledger : Ledger). ledger.journal) c.args.lanes.now cluster.lanes is.lanes))
    (ap receipts_in (sym is.sessions))
    (c.in_ok-results.ensures cluster is)
    (subst (λ (items : List (Bor (List Placed))). Audits (journals_of items) (receipts_in sessions) wrong) c.as_slice.ensures.value c.first_wrong-wrong.ensures)
    (added c.new-text.result.items c.push_part.new.text.items c.push_results.new.text.items c.push_audit.new.text.items
    (history_part history (journals_of lent)) (result_lines results) (audit_line (journals_of lent) wrong)
    c.new-text.ensures.items
    (subst (λ (items : List (Bor (List Placed))). c.push_part.new.text.items ≡ c.new-text.result.items ++ history_part history (journals_of items)) c.as_slice-2.ensures.value
    c.in_ok-push_part.ensures)
    c.in_ok-push_results.ensures
    (subst (λ (items : List (Bor (List Placed))). c.push_audit.new.text.items ≡ c.push_results.new.text.items ++ audit_line (journals_of items) wrong) c.as_slice-3.ensures.value
    c.in_ok-push_audit.ensures))
    c.status_of.ensures.status
