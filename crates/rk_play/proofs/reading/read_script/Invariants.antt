-- What is gone from the source is what the reader was fed, and each piece brings a byte at least.
use Rattle.rk_play.proofs.Words.{◌≡◌, ◌+◌, ◌-◌, length, LONGEST_SCRIPT}
use Rattle.rk_play.proofs.Feeding.{ReadsFrom}
use Rattle.rk_play.proofs.reading.read_script.Given as goal

abbrev pub invariant-pieces : goal.invariant-pieces
invariant-pieces g l = record {
  reads : ReadsFrom (g.S.Source.left l.fn.source) (g.S.Source.left l.source) l.reader;
  kept : g.S.Source.faults l.source ≡ g.S.Source.faults l.fn.source;
  piece : length l.piece ≡ 65536;
}

abbrev pub decreases-pieces : goal.decreases-pieces
decreases-pieces g l = LONGEST_SCRIPT + 1 - l.reader.count
