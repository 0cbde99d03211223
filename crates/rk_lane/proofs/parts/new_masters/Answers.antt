use Rattle.std.proofs.Common.{◌+◌, ◌++◌, ◌∷◌, [], sym, ◌∙◌, arith}
use Rattle.std.proofs.lemmas.List.FromFn.{map-range_with_len_more}
use Rattle.rk_lane.proofs.New.{new_at}
use Rattle.rk_lane.proofs.parts.new_masters.Goals as goal

pub loop-index-preserved : goal.loop-index-preserved
loop-index-preserved c =
    let more = map-range_with_len_more (new_at c.args.backups) 1 c.loop-index.index (c.loop-index.index + 1) (omega arith) in
    c.in_ok-push.ensures.items
    ∙ (λ i. c.loop-index.invariant i ++ c.in_ok-new.ensures i ∷ [])
    ∙ sym more
