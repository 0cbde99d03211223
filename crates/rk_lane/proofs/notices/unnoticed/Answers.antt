use Rattle.rk_lane.proofs.Words.{◌≡◌, ◌+◌, ◌-◌, ◌++◌, ◌∷◌, [], ℕ, Bool, List, cond, filter, sym, ap, ◌∙◌, arith, range_with_len}
use Rattle.rk_lane.proofs.Words.{is_unnoticed}
use Rattle.std.proofs.lemmas.List.{append-nil}
use Rattle.rk_lane.proofs.Noticed.{filter_next, unnoticed_is}
use Rattle.rk_lane.proofs.notices.unnoticed.Goals as goal

pub loop-index-preserved : goal.loop-index-preserved
loop-index-preserved c =
    let it : ℕ = c.loop-index.index + 1 in
    let end : ℕ = c.args.parts.now.coordinator.masters in
    let items : List ℕ = c.loop-index.masters.items in
    ap (λ (list : List ℕ). list ++ filter (is_unnoticed c.args.parts.now) (range_with_len (it + 1) (end - it)))
    (c.in_ok-push_where.ensures ∙ ap (λ (b : Bool). items ++ cond b (it ∷ []) []) c.is_unnoticed.ensures)
    ∙ filter_next (is_unnoticed c.args.parts.now) it (end - c.loop-index.index) (end - it) items (omega (arith, c.masters-index-end.ensures, c.loop-index-test.true))
    ∙ c.loop-index.invariant

pub returns : goal.returns
returns c =
    let none : c.args.parts.now.coordinator.masters - c.loop-index.index ≡ 0 = omega (arith, c.masters-index-end.ensures, c.loop-index-test.false) in
    let items : List ℕ = c.loop-index.masters.items in
    sym (append-nil items)
    ∙ ap (λ (n : ℕ). items ++ filter (is_unnoticed c.args.parts.now) (range_with_len (c.loop-index.index + 1) n)) (sym none)
    ∙ c.loop-index.invariant
    ∙ unnoticed_is c.args.parts.now c.requires
