use Rattle.rk_rebuild.proofs.Words.{◌≡◌, eqb, take, filter, flat_map, counted_of, lent, members_of}
use Rattle.rk_rebuild.proofs.merging.counted_by.Given as goal

-- what counts of the members so far with the master
abbrev pub invariant-loop-reader : goal.invariant-loop-reader
invariant-loop-reader l =
    lent l.entries.items
    ≡ flat_map (counted_of l.range) (filter (λ gathered. eqb gathered.member.master l.master) (members_of l.logs (take l.reader-index l.readers)))
