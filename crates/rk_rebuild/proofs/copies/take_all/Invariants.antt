use Rattle.rk_rebuild.proofs.Words.{take, items_of, lent}
use Rattle.rk_overlay.specs.Newest.{Found, newest_from}
use Rattle.rk_overlay.specs.Lent.{IsTreeOf}
use Rattle.rk_rebuild.proofs.copies.take_all.Given as goal

-- the items so far are taken in
abbrev pub invariant-loop-entry : goal.invariant-loop-entry
invariant-loop-entry l = (found : Found) → IsTreeOf l.fn.newest found → IsTreeOf l.newest (newest_from found (items_of (lent (take l.entry-index l.entries))))
