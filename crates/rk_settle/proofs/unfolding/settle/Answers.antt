use Rattle.rk_settle.proofs.Words.{ℕ, Bool, [], ◌∷◌, ◌++◌, append_assoc, if◌then◌else◌, length, sym, ap, ◌∙◌, flat_map, range_with_len}
use Rattle.rk_settle.proofs.Words.{on_ok_weaker, same_count, lane_tasks, round_of}
use Rattle.rk_settle.specs.declared.task.Task.TheVariants.{Settles}
use Rattle.rk_settle.proofs.unfolding.settle.Goals as goal

pub returns-clause-ok : goal.returns-clause-ok
returns-clause-ok g c =
    let round = λ (count : ℕ). round_of (flat_map lane_tasks (range_with_len 0 count)) in
    on_ok_weaker c.round.result
    (λ pushed cluster stands.
    ap (λ (b : Bool). (if b then [] else round (length cluster.lanes) ++ Settles ∷ []) ++ c.args.tasks.now) (c.is_at_rest.ensures cluster stands ∙ c.if-is_at_rest.false)
    ∙ append_assoc (round (length cluster.lanes)) (Settles ∷ []) c.args.tasks.now
    ∙ ap (λ (count : ℕ). round count ++ Settles ∷ c.args.tasks.now) (same_count g.R.Replica.segments c.args.cluster.now.lanes cluster.lanes stands.lanes ∙ c.masters-masters.ensures.eight)
    ∙ sym pushed)
    c.round.ensures.pushed
