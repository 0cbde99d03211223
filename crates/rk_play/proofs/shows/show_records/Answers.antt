use Rattle.rk_play.proofs.Words.{Some, true, false, sym, ap, ◌∙◌, err_from_is_err_and, dump_code, is_held}
use Rattle.rk_lines.specs.Records.{record_lines}
use Rattle.rk_play.specs.Shows.{dump_text, items_in}
use Rattle.rk_play.proofs.Failing.{refused_apart}
use Rattle.rk_play.proofs.Held.{dump_held}
use Rattle.rk_play.proofs.Shown.{in_lanes, refused_stops, shown_refused, shown_written}
use Rattle.rk_play.proofs.shows.show_records.Goals as goal

pub returns-in_err-items-clause-err : goal.returns-in_err-items-clause-err
returns-in_err-items-clause-err g c =
    let lost = err_from_is_err_and c.from_residual.result c.from_residual.ensures.1 in
    rw (lost.1, lost.2)
    (refused_stops g.R.Replica.segments g.R.Replica.faults c.args.cluster.now _ _ c.in_err-items.field-0.0
    (λ code why.
    shown_refused g.R.Replica.segments g.R.Replica.faults c.args.cluster.now (λ cluster. dump_code cluster c.args.tablet) (λ cluster. dump_text cluster c.args.tablet) code
    (λ cluster is.
    dump_held cluster c.args.tablet false (c.is_tablet.ensures cluster is ∙ c.if-not-is_tablet.false)
    (in_lanes g.R.Replica.segments c.args.cluster.now c.lanes.result.now (λ cluster. is_held cluster c.args.tablet) false c.lanes.ensures why.1 cluster is)
    ∙ ap Some (sym why.0)))
    c.in_err-items.ensures.err)

pub returns-in_err-items-clause-cause : goal.returns-in_err-items-clause-cause
returns-in_err-items-clause-cause g c =
    let lost = err_from_is_err_and c.from_residual.result c.from_residual.ensures.1 in
    rw (lost.1, lost.2) (refused_apart _ c.in_err-items.field-0.0 c.in_err-items.ensures.err)

pub returns-clause-ok : goal.returns-clause-ok
returns-clause-ok g c =
    shown_written g.R.Replica.segments g.R.Replica.faults c.args.cluster.now (λ cluster. dump_code cluster c.args.tablet) (λ cluster. dump_text cluster c.args.tablet)
    (record_lines c.in_ok-items.items.items) c.args.text.now.items c.push_records.new.text.items
    (λ cluster is. dump_held cluster c.args.tablet true (c.is_tablet.ensures cluster is ∙ c.if-not-is_tablet.false)
    (in_lanes g.R.Replica.segments c.args.cluster.now c.lanes.result.now (λ cluster. is_held cluster c.args.tablet) true c.lanes.ensures c.in_ok-items.ensures.owned cluster is))
    (λ cluster is. ap record_lines
    (in_lanes g.R.Replica.segments c.args.cluster.now c.lanes.result.now (λ cluster. items_in cluster c.args.tablet) c.in_ok-items.items.items c.lanes.ensures c.in_ok-items.ensures.items cluster is))
    c.in_ok-push_records.ensures
