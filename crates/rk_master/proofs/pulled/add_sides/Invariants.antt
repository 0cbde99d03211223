use Rattle.rk_master.proofs.Words.{◌≡◌, ◌+◌, ◌++◌, length, w32, All, range_with_len, into_iter_items, IsNumber, FIRST_SIDE_SEGMENT}
use Rattle.rk_master.proofs.Words.{bytes_in, with_sides}
use Rattle.rk_master.proofs.pulled.add_sides.Given as goal

abbrev pub invariant-loop-segment : goal.invariant-loop-segment
invariant-loop-segment l = record {
  log : with_sides l.log (bytes_in (into_iter_items l.segment-iterator)) ≡ with_sides l.fn.log (bytes_in l.fn.segments.items);
  numbers : l.numbers ++ range_with_len (FIRST_SIDE_SEGMENT + length l.log.sides) (length (into_iter_items l.segment-iterator))
      ≡ range_with_len (FIRST_SIDE_SEGMENT + length l.fn.log.sides) (length l.fn.segments.items);
  each : All (IsNumber w32 FIRST_SIDE_SEGMENT) l.numbers;
}
