use Rattle.rk_rebuild.proofs.Words.{◌≡◌, map, take, passed}
use Rattle.rk_rebuild.proofs.reading.all_passed.Given as goal

abbrev pub invariant-loop-reader : goal.invariant-loop-reader
invariant-loop-reader l = l.now.items ≡ map (passed l.range l.log) (take l.reader-index l.readers)
