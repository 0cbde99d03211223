use Rattle.rk_rebuild.proofs.Words.{◌≤◌, not, length, ap, ◌∙◌, arith, position_or_len, gathered_at, is_by}
use Rattle.std.proofs.lemmas.List.Sums.{prefix_len-le-length}
use Rattle.rk_rebuild.proofs.Changes.{opened_same}
use Rattle.rk_rebuild.proofs.reading.opened.Goals as goal

pub returns-clause-same : goal.returns-clause-same
returns-clause-same c = λ member.
    ap (λ logs. gathered_at logs member) c.in_ok-push.ensures.items
    ∙ opened_same c.args.logs.now.items c.new.result c.new.ensures.main c.new.ensures.passed c.new.ensures.sides member

pub returns-clause-within : goal.returns-clause-within
returns-clause-within c =
    let logs = c.as_slice.result.now in
    let most : position_or_len (is_by c.args.master) logs ≤ length logs = prefix_len-le-length (λ log. not (is_by c.args.master log)) logs in
    omega (arith, c.place_of-place.ensures, c.as_slice.ensures.len, c.in_ok-push.ensures.len, most)
