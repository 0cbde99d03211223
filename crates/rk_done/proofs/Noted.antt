-- What is noted of a call that ended, by whether its end is later than the end that is there.
use Rattle.std.proofs.Common.{◌≡◌, true, false}
use Rattle.rk_types.specs.NumberMap.{get, insert}
use Rattle.rk_types.specs.declared.call.Ended.{Ended}
use Rattle.rk_done.specs.Completions.{Completions, is_later, noted}

-- a later end is put in
pub noted_later : (completions : Completions) (ended : Ended) → is_later (get completions ended.client) ended.seq ≡ true → noted completions ended ≡ insert completions ended.client (record { seq = ended.seq; end = ended.end })
noted_later completions ended later = rw later

-- another end changes nothing
pub noted_older : (completions : Completions) (ended : Ended) → is_later (get completions ended.client) ended.seq ≡ false → noted completions ended ≡ completions
noted_older completions ended older = rw older
