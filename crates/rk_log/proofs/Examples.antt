-- Where bytes go, and where they end, at worked examples.
use Rattle.std.proofs.Common.{◌≡◌, [], ◌∷◌, refl}
use Rattle.std.specs.Prelude.{codes}
use Rattle.rk_log.specs.Cut.{with_bytes, end_of}

-- the first bytes begin the first segment
pub with_bytes-first : with_bytes [] (codes "ab") ≡ codes "ab" ∷ []
with_bytes-first = refl

-- bytes that fit go into the last segment
pub with_bytes-more : with_bytes (codes "a" ∷ codes "bc" ∷ []) (codes "d") ≡ codes "a" ∷ codes "bcd" ∷ []
with_bytes-more = refl

-- what was put last ends behind the third byte of segment 2
pub end_of-more : end_of (codes "a" ∷ codes "bcd" ∷ []) ≡ record { segment = 2; offset = 3 }
end_of-more = refl
