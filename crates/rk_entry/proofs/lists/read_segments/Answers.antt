use Rattle.std.proofs.Common.{ℕ, List, [], ap, sym, subst, ◌∙◌}
use Rattle.std.proofs.lemmas.Result.{err_from_is_err_and}
use Rattle.rk_entry.specs.Steps.{Fails}
use Rattle.rk_entry.specs.Lists.{read_segment, read_segments}
use Rattle.rk_entry.proofs.Loops.{segments_go_on, segments_fail, segments_done, greatest_push}
use Rattle.rk_entry.proofs.lists.read_segments.Goals as goal

pub returns-in_err-segment : goal.returns-in_err-segment
returns-in_err-segment c =
    let p = err_from_is_err_and c.from_residual.result c.from_residual.ensures.1 in
    rw (p.1, p.2) (segments_fail c.in_err-segment.field-0.0 c.args.count c.segments.counter c.segments.segments c.segments.rest.now (read_segments c.args.count [] c.args.bytes.now) c.segments-test.true
    (subst (λ (before : List ℕ). Fails c.in_err-segment.field-0.0 (read_segment before c.segments.rest.now)) c.as_slice.ensures c.in_err-segment.ensures) c.segments.invariant.read)

pub segments-preserved : goal.segments-preserved
segments-preserved c =
    let read = segments_go_on c.args.count c.segments.counter c.segments.segments c.segments.rest.now c.in_ok-segment.segment c.in_ok-segment.after.now (read_segments c.args.count [] c.args.bytes.now) c.segments-test.true
    (ap (λ (before : List ℕ). read_segment before c.segments.rest.now) (sym c.as_slice.ensures) ∙ c.in_ok-segment.ensures) c.segments.invariant.read in
    rw c.in_ok-push.ensures.ok (record {
      read = read;
      bound = rw c.max-greatest.ensures (greatest_push c.segments.greatest c.in_ok-segment.segment c.segments.segments c.segments.invariant.bound);
    })

pub returns : goal.returns
returns c = segments_done c.args.count c.segments.counter c.segments.segments c.segments.rest.now (read_segments c.args.count [] c.args.bytes.now) c.segments-test.false c.segments.invariant.read
