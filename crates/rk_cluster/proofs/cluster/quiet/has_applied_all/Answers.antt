use Rattle.rk_cluster.proofs.Words.{◌≡◌, ◌+◌, ◌<◌, ℕ, false, true, [], length, slice_index_or, ◌∙◌, arith, range_with_len}
use Rattle.rk_cluster.proofs.Words.{length-range_with_len, Running, world_with}
use Rattle.std.proofs.lemmas.List.FromFn.{get_or-range_with_len}
use Rattle.rk_cluster.proofs.Resting.{applied_told, rests, rests_told}
use Rattle.rk_cluster.proofs.Testing.{holds_more, holds_not, holds_of_all}
use Rattle.rk_cluster.proofs.cluster.quiet.has_applied_all.Goals as goal

-- the number at a place of those of all masters
number_at : (masters index : ℕ) → index < masters → slice_index_or (range_with_len 1 masters) index 0 ≡ index + 1
number_at masters index within = get_or-range_with_len 1 masters index 0 within ∙ omega arith

pub returns-then-not-has_applied : goal.returns-then-not-has_applied
returns-then-not-has_applied g c =
    let lane = c.args.lane.now in
    let within : c.loop-index.index < length (range_with_len 1 c.args.masters) = omega (arith, c.loop-index-test.true, length-range_with_len 1 c.args.masters) in
    applied_told lane c.args.masters c.requires false lane.running c.spent-spent.ensures.formed c.spent-spent.ensures.masters
    (holds_not (λ (running : Running). rests (world_with lane running [])) (range_with_len 1 c.args.masters) c.loop-index.index lane.running 0 c.has_applied.result within
    (rests_told lane c.args.masters c.requires c.has_applied.result (c.loop-index.index + 1) lane.running c.has_applied.ensures
    (slice_index_or (range_with_len 1 c.args.masters) c.loop-index.index 0) (number_at c.args.masters c.loop-index.index c.loop-index-test.true))
    c.if-not-has_applied.true)

pub loop-index-preserved : goal.loop-index-preserved
loop-index-preserved g c =
    let lane = c.args.lane.now in
    let within : c.loop-index.index < length (range_with_len 1 c.args.masters) = omega (arith, c.loop-index-test.true, length-range_with_len 1 c.args.masters) in
    holds_more (λ (running : Running). rests (world_with lane running [])) (range_with_len 1 c.args.masters) c.loop-index.index lane.running 0 c.has_applied.result within c.loop-index.invariant
    (rests_told lane c.args.masters c.requires c.has_applied.result (c.loop-index.index + 1) lane.running c.has_applied.ensures
    (slice_index_or (range_with_len 1 c.args.masters) c.loop-index.index 0) (number_at c.args.masters c.loop-index.index c.loop-index-test.true))
    c.if-not-has_applied.false

pub returns : goal.returns
returns g c =
    let lane = c.args.lane.now in
    applied_told lane c.args.masters c.requires true lane.running c.spent-spent.ensures.formed c.spent-spent.ensures.masters
    (holds_of_all (λ (running : Running). rests (world_with lane running [])) (range_with_len 1 c.args.masters) c.loop-index.index lane.running
    (omega (arith, c.loop-index-test.false, length-range_with_len 1 c.args.masters)) c.loop-index.invariant)
