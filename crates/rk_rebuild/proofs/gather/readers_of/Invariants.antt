use Rattle.rk_rebuild.proofs.Words.{◌≡◌, eqb, map, not, take, filter}
use Rattle.rk_rebuild.proofs.gather.readers_of.Given as goal

abbrev pub invariant-loop-member : goal.invariant-loop-member
invariant-loop-member l =
    map (λ reader. reader.member) l.readers.items ≡ filter (λ member. not (eqb member.master l.own)) (take l.member-index l.lineage)
