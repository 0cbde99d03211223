-- The laws of Append and Stored.
use Rattle.std.proofs.Common.{◌≡◌, ℕ, ◌^◌, ◌<◌, refl, arith}
use Rattle.std.specs.Int.{w32}
use Rattle.rk_entry.proofs.NumberLaws.{wide32}
use Rattle.rk_message.specs.declared.replication.TheConstants.{APPEND_BYTES, STORED_BYTES}
use Rattle.rk_message.specs.Replication.{append_bytes, append_count, IsLawfulAppend, read_append, stored_bytes, IsLawfulStored, read_stored}
use Rattle.rk_message.proofs.Codecs.{IsCodec, codec_as, fields2, fields3}
use Rattle.rk_message.proofs.FieldLaws.{number_codec}
use Rattle.rk_message.proofs.ListLaws.{last_bytes_codec}

-- an Append
pub append_codec : (size : ℕ) → size < 256 ^ 4 → IsCodec append_bytes append_count (λ append. IsLawfulAppend append × (size ≡ append_count append)) (read_append size)
unfolding append_bytes read_append
append_codec size small =
    codec_as (λ append. omega arith) (λ append h. ((h.0, h.1), h.2)) (λ append h. (h.0.0, h.0.1, h.1))
    (fields3 (λ p. record { segment = p.0; at = p.1; bytes = p.2 }) (λ y. (y.segment, y.at, y.bytes)) (λ p. refl) (λ y. refl)
    (number_codec w32 wide32) (number_codec w32 wide32) (last_bytes_codec APPEND_BYTES size small))

-- a Stored
pub stored_codec : IsCodec stored_bytes (λ stored. STORED_BYTES) IsLawfulStored read_stored
unfolding stored_bytes read_stored
stored_codec = fields2 (λ p. record { segment = p.0; length = p.1 }) (λ y. (y.segment, y.length)) (λ p. refl) (λ y. refl) (number_codec w32 wide32) (number_codec w32 wide32)
