use Rattle.std.proofs.Common.{◌≡◌, drop}
use Rattle.rk_world.specs.Lineage.{own_member}
use Rattle.rk_master.proofs.rebuilds.own_member.Given as goal

-- the master's place is among the members that are left
abbrev pub invariant-loop-member : goal.invariant-loop-member
invariant-loop-member l = own_member l.lineage l.master ≡ own_member (drop l.member-index l.lineage) l.master
