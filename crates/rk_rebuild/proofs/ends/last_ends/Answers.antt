use Rattle.rk_rebuild.proofs.Words.{◌+◌, drop, sym, ap, ◌∙◌, flat_map, completions_from}
use Rattle.rk_done.specs.Completions.{Completions}
use Rattle.rk_rebuild.proofs.Placing.{noted_more}
use Rattle.rk_rebuild.proofs.ends.last_ends.Goals as goal

pub loop-ends-preserved : goal.loop-ends-preserved
loop-ends-preserved c =
    ap (λ (last : Completions). completions_from last (flat_map (λ ends. ends) (drop (c.loop-ends.ends-index + 1) c.args.told.now)))
    (c.in_ok-note_all.ensures ∙ ap (completions_from c.loop-ends.last) c.as_slice.ensures)
    ∙ sym (noted_more c.loop-ends.last c.args.told.now c.loop-ends.ends-index c.ends-item.result c.loop-ends-test.true c.ends-item.is)
    ∙ c.loop-ends.invariant
