use Rattle.std.proofs.Common.{◌≡◌, length, arith}
use Rattle.rk_overlay.proofs.Places.{best_is}
use Rattle.rk_overlay.proofs.search.newest.Goals as goal

pub returns-clause-item : goal.returns-clause-item
returns-clause-item c =
    let all : c.loop-place.place ≡ length c.args.items.now = omega arith in
    best_is c.args.items.now c.args.table c.args.key.now c.loop-place.place c.loop-place.best all c.loop-place.invariant
