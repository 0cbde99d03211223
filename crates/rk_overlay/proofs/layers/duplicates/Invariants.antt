use Rattle.std.proofs.Common.{◌≡◌, take, map}
use Rattle.rk_overlay.proofs.layers.duplicates.Given as goal

-- the items so far are copied
abbrev pub invariant-loop-item : goal.invariant-loop-item
invariant-loop-item l = l.copies.items ≡ map (λ item. item.now) (take l.item-index l.items)
