use Rattle.std.proofs.Common.{take}
use Rattle.rk_overlay.specs.Newest.{Found, newest_from}
use Rattle.rk_overlay.specs.Lent.{IsTreeOf}
use Rattle.rk_overlay.proofs.layers.take_all.Given as goal

-- the items so far are taken in
abbrev pub invariant-loop-item : goal.invariant-loop-item
invariant-loop-item l = (found : Found) → IsTreeOf l.fn.newest found → IsTreeOf l.newest (newest_from found (take l.item-index l.items))
