use Rattle.std.proofs.Common.{◌∷◌, ◌++◌, [], sym, ◌∙◌}
use Rattle.rk_drive.proofs.Beginnings.{one_more_session}
use Rattle.rk_drive.proofs.start.numbered_sessions.Goals as goal

pub loop-index-preserved : goal.loop-index-preserved
loop-index-preserved c =
    c.in_ok-push.ensures.items ∙ (λ i. c.loop-index.invariant i ++ c.new.ensures i ∷ []) ∙ sym (one_more_session c.loop-index.index)
