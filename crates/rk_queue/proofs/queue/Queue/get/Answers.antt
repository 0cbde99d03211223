use Rattle.std.proofs.Common.{ℕ, Some, sym, ap, subst, ◌∙◌}
use Rattle.rk_types.specs.NumberMap as map
use Rattle.rk_types.specs.Places.{IsAt}
use Rattle.rk_types.proofs.Places.{get_at}
use Rattle.rk_queue.proofs.queue.Queue.get.Goals as goal

pub returns : goal.returns
returns g c =
    let there = subst (λ entries. IsAt c.args.number entries c.in_ok-place.place) (sym c.self.view_is) c.in_ok-place.ensures.found in
    ap (λ (entry : ℕ × g.row.V.Denot). Some entry.1) c.index.ensures
    ∙ sym (get_at c.args.number c.self.inside.values.items c.in_ok-place.place c.index.result.now c.self.invariant there)
    ∙ ap (λ entries. map.get entries c.args.number) c.self.view_is
