use Rattle.rk_lane.proofs.Words.{◌≡◌, fold, take, notice_one}
use Rattle.rk_lane.proofs.notices.notice_all.Given as goal

abbrev pub invariant-loop-master : goal.invariant-loop-master
invariant-loop-master l = l.coordinator ≡ fold notice_one l.initial.coordinator (take l.master-index l.order)
