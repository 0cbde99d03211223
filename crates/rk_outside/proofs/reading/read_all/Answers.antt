-- A piece for which no memory was left is gone from the source, behind what was read before.
use Rattle.std.proofs.Common.{◌++◌, arith, take, length-append, length-take}
use Rattle.std.proofs.KnownBytes.{Consumes-trans}
use Rattle.rk_outside.proofs.reading.read_all.Goals as goal

pub returns-in_err-extend_from_slice-clause-front : goal.returns-in_err-extend_from_slice-clause-front
returns-in_err-extend_from_slice-clause-front g c =
    let before = c.pieces.bytes.items in
    let piece = take c.in_ok-count.count c.next.new.into in
    record {
      front = before ++ piece;
      no_fewer = omega arith;
      no_more = omega (arith, length-append before piece, length-take c.in_ok-count.count c.next.new.into);
      consumed = Consumes-trans _ _ _ _ _ c.pieces.invariant.consumed c.in_ok-count.ensures.bytes.0;
    }
