use Rattle.std.proofs.Common.{◌≡◌, All, Some, subst}
use Rattle.rk_types.specs.NumberMap as map
use Rattle.rk_queue.proofs.Queues.{each_found}
use Rattle.rk_queue.proofs.queue.Queue.iter.Goals as goal

pub returns-clause-found : goal.returns-clause-found
returns-clause-found g c =
    subst (λ entries. All (λ entry. map.get entries entry.0 ≡ Some entry.1) entries) c.self.view_is
    (each_found c.self.inside.values.items c.self.invariant)
