use Rattle.rk_rebuild.proofs.Words.{◌≡◌, drop, find, is_unread}
use Rattle.rk_rebuild.proofs.member.next_side.Given as goal

abbrev pub invariant-loop-segment : goal.invariant-loop-segment
invariant-loop-segment l = find (is_unread l.sides) l.named ≡ find (is_unread l.sides) (drop l.segment-index l.named)
