use Rattle.rk_rebuild.proofs.Words.{map, take, lent}
use Rattle.rk_world.specs.Gather.{material_by}
use Rattle.rk_rebuild.specs.Counted.{IsCounted}
use Rattle.rk_rebuild.proofs.gather.counted_members.Given as goal

-- what counts of the members so far
abbrev pub invariant-loop-member : goal.invariant-loop-member
invariant-loop-member l = IsCounted l.counted (map (λ member. material_by l.gather (lent l.own) member.master) (take l.member-index l.lineage))
