use Rattle.rk_master.proofs.Words.{◌≡◌, [], fold, take, with_side_read}
use Rattle.rk_master.proofs.own_entries.sides_read.Given as goal

-- the side segments so far were read
abbrev pub invariant-loop-number : goal.invariant-loop-number
invariant-loop-number l = l.read ≡ fold (with_side_read l.log.sides) [] (take l.number-index l.numbers)
