use Rattle.rk_rebuild.proofs.Words.{length, sym, ◌∙◌, arith, is_unread}
use Rattle.std.proofs.lemmas.List.Sums.{position_or_len_is}
use Rattle.rk_rebuild.proofs.reading.read_first.Goals as goal

pub returns-then-is_unread : goal.returns-then-is_unread
returns-then-is_unread c =
    sym (position_or_len_is (is_unread c.args.sides.now) c.args.segments.now c.loop-place.place 0 (omega arith)
    (λ k before. c.loop-place.invariant k 0 before)
    (λ within. sym c.is_unread.ensures ∙ c.if-is_unread.true))

pub returns : goal.returns
returns c =
    sym (position_or_len_is (is_unread c.args.sides.now) c.args.segments.now (length c.args.segments.now) 0 (omega arith)
    (λ k before. c.loop-place.invariant k 0 (omega arith))
    (λ within. absurd (omega arith)))
