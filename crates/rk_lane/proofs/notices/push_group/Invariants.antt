use Rattle.rk_lane.proofs.Words.{◌≡◌, ◌++◌, filter, take, is_of}
use Rattle.rk_lane.proofs.notices.push_group.Given as goal

abbrev pub invariant-loop-master : goal.invariant-loop-master
invariant-loop-master l = l.order.items ≡ l.initial.order.items ++ filter (is_of l.rows l.dead l.group) (take l.master-index l.masters)
