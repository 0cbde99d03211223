use Rattle.std.proofs.Common.{sym, ap, subst, ◌∙◌}
use Rattle.rk_types.specs.NumberMap as map
use Rattle.rk_queue.proofs.Queues.{AreBelow, insert_behind, order_behind}
use Rattle.rk_queue.proofs.queue.Queue.push.Goals as goal

pub invariant_of-self-2 : goal.invariant_of-self-2
invariant_of-self-2 g c =
    let below = subst (AreBelow c.args.number) (sym c.self.view_is) c.requires in
    subst map.IsInOrder (sym c.in_ok-push_back.ensures.items)
    (order_behind c.args.number c.args.value c.self.inside.values.items c.self.invariant below)

pub returns-clause-ok : goal.returns-clause-ok
returns-clause-ok g c =
    let below = subst (AreBelow c.args.number) (sym c.self.view_is) c.requires in
    c.in_ok-push_back.ensures.items
    ∙ sym (insert_behind c.args.number c.args.value c.self.inside.values.items below)
    ∙ ap (λ entries. map.insert entries c.args.number c.args.value) c.self.view_is
