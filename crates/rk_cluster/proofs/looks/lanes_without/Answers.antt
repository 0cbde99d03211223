use Rattle.rk_cluster.proofs.Words.{◌≡◌, ◌<◌, not, true, false, ℕ, [], ◌∷◌, ◌++◌, Option, sym, ap, ◌∙◌, append-nil, arith, All-push, LANES}
use Rattle.rk_cluster.proofs.Words.{is_owner, owner_in, LaneTells}
use Rattle.std.proofs.lemmas.List.Elements.{All-same}
use Rattle.rk_cluster.proofs.Telling.{found_next, found_past, owner_eq}
use Rattle.rk_cluster.proofs.Worlds.{there_read}
use Rattle.rk_cluster.proofs.looks.lanes_without.Goals as goal
use Rattle.rk_cluster.proofs.looks.lanes_without.Goals.{then-ne+in_ok-push, else-ne}

pub loop-lane-preserved : goal.loop-lane-preserved
loop-lane-preserved g c =
    let there = there_read c.args.lanes.now c.loop-lane.lane c.index-lanes-lane.result (omega (arith, c.requires, c.loop-lane-test.true)) c.index-lanes-lane.is in
    let tells : LaneTells g.R.Replica.segments c.index-lanes-lane.result (λ w. not (is_owner c.args.master (owner_in w c.args.tablet))) c.ne.result =
    λ w is. ap (λ (owner : Option ℕ). not (is_owner c.args.master owner)) (c.owner_in.ensures w is) ∙ ap not (owner_eq c.args.master c.owner_in.result) ∙ sym c.ne.ensures in
    elim c.if-ne.branch [
      | then-ne+in_ok-push w ↦
          let pushed : c.if-ne.found.items ≡ c.loop-lane.found.items ++ c.loop-lane.lane ∷ [] = cc (w.in_ok-push.ensures.items) in (
            λ sessions cluster is.
                found_next g.R.Replica.segments c.args.lanes.now (λ w. not (is_owner c.args.master (owner_in w c.args.tablet))) c.loop-lane.lane c.index-lanes-lane.result c.loop-lane.found.items true
                there (λ v of. tells v of ∙ w.if-ne.true) c.loop-lane.invariant.0 sessions cluster is ∙ sym pushed,
            All-same (λ lane. lane < LANES) c.if-ne.found.items (c.loop-lane.found.items ++ c.loop-lane.lane ∷ []) pushed
                (All-push (λ lane. lane < LANES) c.loop-lane.found.items c.loop-lane.lane c.loop-lane.invariant.1 (omega (arith, c.loop-lane-test.true))),
          )
      | else-ne w ↦
          let same : c.if-ne.found.items ≡ c.loop-lane.found.items = cc in (
            λ sessions cluster is.
                found_next g.R.Replica.segments c.args.lanes.now (λ w. not (is_owner c.args.master (owner_in w c.args.tablet))) c.loop-lane.lane c.index-lanes-lane.result c.loop-lane.found.items false
                there (λ v of. tells v of ∙ w.if-ne.false) c.loop-lane.invariant.0 sessions cluster is ∙ append-nil c.loop-lane.found.items ∙ sym same,
            All-same (λ lane. lane < LANES) c.if-ne.found.items c.loop-lane.found.items same c.loop-lane.invariant.1,
          )
    ]

pub returns-clause-found : goal.returns-clause-found
returns-clause-found g c =
    found_past g.R.Replica.segments c.args.lanes.now (λ w. not (is_owner c.args.master (owner_in w c.args.tablet))) c.loop-lane.lane c.loop-lane.found.items
    (omega (arith, c.requires, c.loop-lane-test.false, c.loop-lane.auto.lane-end)) c.loop-lane.invariant.0
