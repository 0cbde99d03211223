use Rattle.rk_types.proofs.Places.{get_at, get_between}
use Rattle.rk_done.proofs.completions.Completions.look.Goals as goal

-- the client's last completion is at its place
pub returns-in-Ok-clause-value : goal.returns-in-Ok-clause-value
returns-in-Ok-clause-value c =
    let last = get_at c.args.client c.self.inside.completions.items c.in-Ok.at c.index.result.now c.self.invariant (rw c.as_slice.ensures.value at c.in-Ok.ensures.found) in
    rw (← c.self.view_is, last, ← c.index.ensures) c.look.ensures

-- a client that has no place has no completion
pub returns-in-Err-clause-value : goal.returns-in-Err-clause-value
returns-in-Err-clause-value c =
    let none = get_between c.args.client c.self.inside.completions.items c.in-Err.field-0 (rw c.as_slice.ensures.value at c.in-Err.ensures.absent) in
    rw (← c.self.view_is, none)
