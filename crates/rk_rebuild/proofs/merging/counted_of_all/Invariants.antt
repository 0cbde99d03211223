use Rattle.rk_rebuild.proofs.Words.{◌≡◌, take, flat_map, counted_of, lent, members_of}
use Rattle.rk_rebuild.proofs.merging.counted_of_all.Given as goal

-- what counts of the members so far
abbrev pub invariant-loop-reader : goal.invariant-loop-reader
invariant-loop-reader l =
    lent l.entries.items ≡ flat_map (counted_of l.range) (members_of l.logs (take l.reader-index l.readers))
