use Rattle.rk_side_log.proofs.Words.{◌≡◌, ◌+◌, ◌++◌, [], replicate, vec_len, bytes_in}
use Rattle.rk_side_log.proofs.side_log.make_segments.Given as goal

abbrev pub invariant-loop : goal.invariant-loop
invariant-loop l =
    (bytes_in l.segments.items ≡ bytes_in l.initial.segments.items ++ replicate l.counter [])
    × (vec_len l.segments ≡ vec_len l.initial.segments + l.counter)
