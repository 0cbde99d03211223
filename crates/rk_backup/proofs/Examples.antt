-- What a backup adds, at worked examples.
use Rattle.std.proofs.Common.{◌≡◌, [], refl}
use Rattle.std.specs.Prelude.{codes}
use Rattle.rk_backup.specs.Accepts.{added}

-- bytes at the end of the stored ones, and bytes that overlap them
pub added-at_end : added 0 (codes "abc") [] ≡ codes "abc"
added-at_end = refl

pub added-overlapping : added 1 (codes "bcd") (codes "abc") ≡ codes "d"
added-overlapping = refl

-- nothing of other bytes, and nothing past a gap
pub added-other : added 2 (codes "xyz") (codes "abcd") ≡ []
added-other = refl

pub added-past_a_gap : added 9 (codes "z") (codes "abcd") ≡ []
added-past_a_gap = refl
