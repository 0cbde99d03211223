-- The laws of Prepare, Ready, Close, Transfer and Grant.
use Rattle.std.proofs.Common.{◌≡◌, ℕ, ◌+◌, ◌*◌, ◌^◌, ◌<◌, length, refl, arith}
use Rattle.std.specs.List.{AllByRecursion}
use Rattle.std.specs.Int.{w8, w64}
use Rattle.rk_entry.specs.declared.kind.TheConstants.{END_BYTES}
use Rattle.rk_entry.specs.Ends.{end_bytes, IsLawfulEnd, read_end}
use Rattle.rk_entry.proofs.Counts.{length-end_bytes}
use Rattle.rk_entry.proofs.NumberLaws.{wide8, wide64}
use Rattle.rk_entry.proofs.EndLaws.{end_takes, end_again}
use Rattle.rk_entry.proofs.Tools.{takes_weaker}
use Rattle.rk_message.specs.declared.fields.TheConstants.{COUNT_BYTES}
use Rattle.rk_message.specs.declared.handover.TheConstants.{PREPARE_BYTES, READY_BYTES, TRANSFER_BYTES, GRANT_BYTES}
use Rattle.rk_message.specs.Handover.{prepare_bytes, IsLawfulPrepare, read_prepare, ready_bytes, IsLawfulReady, read_ready, ends_bytes, read_last_ends, transfer_bytes, transfer_count, IsLawfulTransfer, read_transfer, grant_bytes, grant_count, IsLawfulGrant, read_grant}
use Rattle.rk_message.proofs.Codecs.{IsCodec, codec_as, fields2, fields3, fields4}
use Rattle.rk_message.proofs.FieldLaws.{number_codec, tenure_codec, range_codec}
use Rattle.rk_message.proofs.ListLaws.{last_list_codec}

-- a Prepare
pub prepare_codec : IsCodec prepare_bytes (λ prepare. PREPARE_BYTES) IsLawfulPrepare read_prepare
unfolding prepare_bytes read_prepare
prepare_codec = fields2 (λ p. record { tenure = p.0; range = p.1 }) (λ y. (y.tenure, y.range)) (λ p. refl) (λ y. refl) tenure_codec range_codec

-- a Ready
pub ready_codec : IsCodec ready_bytes (λ ready. READY_BYTES) IsLawfulReady read_ready
unfolding ready_bytes read_ready
ready_codec = fields2 (λ p. record { tenure = p.0; place = p.1 }) (λ y. (y.tenure, y.place)) (λ p. refl) (λ y. refl) tenure_codec (number_codec w64 wide64)

-- the end of any client's call
pub end_codec : IsCodec end_bytes (λ end. END_BYTES) IsLawfulEnd (read_end 0)
end_codec = record {
  takes = λ bytes x e. takes_weaker (λ (h : IsLawfulEnd x.0 × (0 < x.0.client)). h.0) (end_takes 0 bytes x e);
  again = λ end rest h. end_again 0 end rest h (omega (arith, h.client.least_is));
  counted = length-end_bytes;
}

-- the ends of calls that end a body
pub last_ends_codec : (first size : ℕ) → size < 256 ^ 4
    → IsCodec ends_bytes (λ ends. COUNT_BYTES + END_BYTES * length ends) (λ ends. AllByRecursion IsLawfulEnd ends × (size ≡ first + END_BYTES * length ends)) (read_last_ends first size)
unfolding ends_bytes read_last_ends
last_ends_codec first size small = last_list_codec END_BYTES first size (omega arith) small end_codec

-- a Transfer
pub transfer_codec : (size : ℕ) → size < 256 ^ 4 → IsCodec transfer_bytes transfer_count (λ transfer. IsLawfulTransfer transfer × (size ≡ transfer_count transfer)) (read_transfer size)
unfolding transfer_bytes read_transfer
transfer_codec size small =
    codec_as (λ transfer. omega arith) (λ transfer h. ((h.0, h.1, h.2.0), h.2.1)) (λ transfer h. (h.0.0, h.0.1, (h.0.2, h.1)))
    (fields3 (λ p. record { tenure = p.0; floor = p.1; ends = p.2 }) (λ y. (y.tenure, y.floor, y.ends)) (λ p. refl) (λ y. refl)
    tenure_codec (number_codec w64 wide64) (last_ends_codec TRANSFER_BYTES size small))

-- a Grant
pub grant_codec : (size : ℕ) → size < 256 ^ 4 → IsCodec grant_bytes grant_count (λ grant. IsLawfulGrant grant × (size ≡ grant_count grant)) (read_grant size)
unfolding grant_bytes read_grant
grant_codec size small =
    codec_as (λ grant. omega arith) (λ grant h. ((h.0, h.1, h.2, h.3.0), h.3.1)) (λ grant h. (h.0.0, h.0.1, h.0.2, (h.0.3, h.1)))
    (fields4 (λ p. record { tenure = p.0; source = p.1; floor = p.2; ends = p.3 }) (λ y. (y.tenure, y.source, y.floor, y.ends)) (λ p. refl) (λ y. refl)
    tenure_codec (number_codec w8 wide8) (number_codec w64 wide64) (last_ends_codec GRANT_BYTES size small))
