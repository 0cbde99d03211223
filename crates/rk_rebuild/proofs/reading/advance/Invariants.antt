use Rattle.rk_rebuild.proofs.Words.{◌≡◌, ◌++◌, drop, map, take, advanced}
use Rattle.rk_rebuild.proofs.reading.advance.Given as goal

-- the readers so far are moved on
abbrev pub invariant-loop-reader : goal.invariant-loop-reader
invariant-loop-reader l =
    l.reader-items
    ≡ map (advanced l.log) (take l.reader-index l.initial.reader-items) ++ drop l.reader-index l.initial.reader-items
