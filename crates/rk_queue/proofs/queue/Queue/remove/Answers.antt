use Rattle.std.proofs.Common.{ℕ, Some, sym, ap, subst, ◌∙◌}
use Rattle.rk_types.specs.NumberMap as map
use Rattle.rk_types.specs.Places.{IsAt}
use Rattle.rk_types.proofs.Places.{get_at}
use Rattle.rk_queue.proofs.Queues.{order_removed, remove_absent, remove_place}
use Rattle.rk_queue.proofs.queue.Queue.remove.Goals as goal

pub returns-in_err-place-clause-removed : goal.returns-in_err-place-clause-removed
returns-in_err-place-clause-removed g c = sym (remove_absent c.args.number c.args.self.now c.in_err-place.ensures.absent)

pub invariant_of-self-2 : goal.invariant_of-self-2
invariant_of-self-2 g c =
    let there = subst (λ entries. IsAt c.args.number entries c.in_ok-place.place) (sym c.self.view_is) c.in_ok-place.ensures.found in
    subst map.IsInOrder (sym c.in_ok-entry.ensures.items)
    (order_removed c.args.number c.self.inside.values.items c.in_ok-place.place c.self.invariant there)

pub returns-clause-value : goal.returns-clause-value
returns-clause-value g c =
    let there = subst (λ entries. IsAt c.args.number entries c.in_ok-place.place) (sym c.self.view_is) c.in_ok-place.ensures.found in
    ap (λ (entry : ℕ × g.row.V.Denot). Some entry.1) c.in_ok-entry.ensures.value
    ∙ sym (get_at c.args.number c.self.inside.values.items c.in_ok-place.place c.in_ok-entry.entry c.self.invariant there)
    ∙ ap (λ entries. map.get entries c.args.number) c.self.view_is

pub returns-clause-removed : goal.returns-clause-removed
returns-clause-removed g c =
    let there = subst (λ entries. IsAt c.args.number entries c.in_ok-place.place) (sym c.self.view_is) c.in_ok-place.ensures.found in
    c.in_ok-entry.ensures.items
    ∙ sym (remove_place c.args.number c.self.inside.values.items c.in_ok-place.place c.self.invariant there)
    ∙ ap (λ entries. map.remove entries c.args.number) c.self.view_is
