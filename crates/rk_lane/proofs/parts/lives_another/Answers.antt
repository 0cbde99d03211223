use Rattle.std.proofs.Common.{◌+◌, ◌-◌, ℕ, sym, ◌∙◌, arith}
use Rattle.rk_lane.proofs.Living.{any_next, is_beside}
use Rattle.rk_lane.proofs.parts.lives_another.Goals as goal

pub loop-index-preserved : goal.loop-index-preserved
loop-index-preserved c =
    let count : ℕ = c.args.parts.now.coordinator.masters in
    c.loop-index.invariant
    ∙ any_next (is_beside c.args.parts.now c.args.master) (c.loop-index.index + 1) (count - c.loop-index.index) (count - (c.loop-index.index + 1))
    (omega (arith, c.masters-index-end.ensures, c.loop-index-test.true)) (sym c.lives_beside.ensures ∙ c.if-lives_beside.false)
