-- The laws of Rebuild, Read, Copy and Rebuilt.
use Rattle.std.proofs.Common.{◌≡◌, ℕ, ◌+◌, ◌^◌, ◌<◌, Bool, true, false, List, [], ◌++◌, length, Option, Some, None, Ok, refl, sym, subst, arith, ltb, eqb}
use Rattle.std.specs.Prelude.{is_some, ⊤}
use Rattle.std.specs.Option.{ok_or}
use Rattle.std.specs.Int.{w8, w32, w64}
use Rattle.std.proofs.lemmas.Bool.{ltb-false, eqb-true}
use Rattle.rk_entry.specs.declared.error.DecodeError.TheVariants.{Bad}
use Rattle.rk_entry.specs.declared.error.TheConstants.{BAD_CHOICE}
use Rattle.rk_entry.specs.Numbers.{number_bytes, read_number}
use Rattle.rk_entry.proofs.Counts.{length-number_bytes}
use Rattle.rk_entry.proofs.Tools.{bind_ok, unless_ok, ok_is, Takes, takes_weaker}
use Rattle.rk_entry.proofs.NumberLaws.{wide8, wide32, wide64, number_takes, number_again}
use Rattle.rk_entry.proofs.EndLaws.{chosen}
use Rattle.rk_entry.proofs.FieldLaws.{ok_or_ok}
use Rattle.rk_message.specs.declared.fields.TheConstants.{COUNT_BYTES}
use Rattle.rk_message.specs.declared.rebuilding.TheConstants.{MEMBER_BYTES, REBUILD_BYTES, READ_SEGMENT_BYTES, MISSING, PRESENT, COPY_BYTES, REBUILT_BYTES}
use Rattle.rk_message.specs.Fields.{read_bytes, counted_bytes}
use Rattle.rk_message.specs.Rebuilding.{member_bytes, IsLawfulMember, read_member, rebuild_bytes, rebuild_count, IsLawfulRebuild, read_rebuild, read_segment_bytes, IsLawfulReadSegment, read_read_segment, kept, present_number, kept_bytes, present_numbered, read_present, read_kept_bytes, read_kept, copy_bytes, copy_count, IsLawfulCopy, read_copy, rebuilt_bytes, rebuilt_count, IsLawfulRebuilt, read_rebuilt}
use Rattle.rk_message.proofs.Codecs.{IsCodec, codec_as, fields2, fields3, fields4}
use Rattle.rk_message.proofs.Chains.{then_codec}
use Rattle.rk_message.proofs.FieldLaws.{number_codec, range_codec, tenure_codec}
use Rattle.rk_message.proofs.HandoverLaws.{last_ends_codec}
use Rattle.rk_message.proofs.ListLaws.{bytes_codec, last_count_codec, last_list_codec}

-- ---- Rebuild

-- a member of a lineage
pub member_codec : IsCodec member_bytes (λ member. MEMBER_BYTES) IsLawfulMember read_member
unfolding member_bytes read_member
member_codec = fields2 (λ p. record { master = p.0; from = p.1 }) (λ y. (y.master, y.from)) (λ p. refl) (λ y. refl) (number_codec w8 wide8) (number_codec w64 wide64)

-- a Rebuild whose length is given
pub rebuild_codec : (size : ℕ) → size < 256 ^ 4 → IsCodec rebuild_bytes rebuild_count (λ rebuild. IsLawfulRebuild rebuild × (size ≡ rebuild_count rebuild)) (read_rebuild size)
unfolding rebuild_bytes read_rebuild
rebuild_codec size small =
    codec_as (λ rebuild. omega arith) (λ rebuild h. (record { tenure = h.0; range = h.1; lineage = h.2.0 }, h.2.1)) (λ rebuild h. (h.0.tenure, h.0.range, (h.0.lineage, h.1)))
    (fields3 (λ p. record { tenure = p.0; range = p.1; lineage = p.2 }) (λ y. (y.tenure, y.range, y.lineage)) (λ p. refl) (λ y. refl)
    tenure_codec range_codec (last_list_codec MEMBER_BYTES REBUILD_BYTES size (omega arith) small member_codec))

-- ---- Read

-- a Read
pub read_segment_codec : IsCodec read_segment_bytes (λ wanted. READ_SEGMENT_BYTES) IsLawfulReadSegment read_read_segment
unfolding read_segment_bytes read_read_segment
read_segment_codec =
    codec_as (λ wanted. refl) (λ wanted h. record { tenure = h.0; master = h.1; segment = h.2 }) (λ wanted h. (h.tenure, h.master, h.segment))
    (fields3 (λ p. record { tenure = p.0; master = p.1; segment = p.2 }) (λ y. (y.tenure, y.master, y.segment)) (λ p. refl) (λ y. refl)
    tenure_codec (number_codec w8 wide8) (number_codec w32 wide32))

-- ---- Copy

-- a number that says whether a segment was written is the number of that
present_is : (n : ℕ) (present : Bool) → present_numbered n ≡ Some present → n ≡ present_number present
present_is n present e = grind (arith, chosen, eqb, eqb-true)

-- whether a segment was ever written
present_codec : IsCodec (λ present. number_bytes w8 (present_number present)) (λ present. 1) (λ present. ⊤) read_present
unfolding read_present
present_codec = record {
  takes = λ from x e.
      let n = bind_ok (read_number w8 from) e in
      let p = bind_ok (ok_or (present_numbered n.0.0) (Bad BAD_CHOICE)) n.2 in
      let number : n.0.0 ≡ present_number p.0 = present_is n.0.0 p.0 (ok_or_ok (present_numbered n.0.0) (Bad BAD_CHOICE) p.0 p.1) in
      subst (λ (y : Bool × List ℕ). Takes from (number_bytes w8 (present_number y.0)) y.1 ⊤) (ok_is (p.0, n.0.1) x p.2)
      (subst (λ (m : ℕ). Takes from (number_bytes w8 m) n.0.1 ⊤) number (takes_weaker (λ (fits : n.0.0 < 256). tt) (number_takes w8 wide8 from n.0 n.1)));
  again = again;
  counted = λ present. length-number_bytes w8 (present_number present);
}
  where
    again : (present : Bool) (rest : List ℕ) → ⊤ → read_present (number_bytes w8 (present_number present) ++ rest) ≡ Ok (present, rest)
    again true rest h = rw (number_again w8 wide8 PRESENT rest (omega arith)) refl
    again false rest h = rw (number_again w8 wide8 MISSING rest (omega arith)) refl

-- the bytes that are kept of a segment
kept_bytes_codec : (present : Bool) (count : ℕ) → IsCodec kept (λ segment. length (kept segment)) (λ segment. (length (kept segment) ≡ count) × (is_some segment ≡ present)) (read_kept_bytes present count)
unfolding read_kept_bytes
kept_bytes_codec true count = record {
  takes = λ from x e.
      let a = bind_ok (read_bytes count from) e in
      subst (λ (y : Option (List ℕ) × List ℕ). Takes from (kept y.0) y.1 ((length (kept y.0) ≡ count) × (is_some y.0 ≡ true))) (ok_is (Some a.0.0, a.0.1) x a.2)
      (takes_weaker (λ h. (h, refl)) ((bytes_codec count).takes from a.0 a.1));
  again = again;
  counted = λ segment. refl;
}
  where
    again : (segment : Option (List ℕ)) (rest : List ℕ) → (length (kept segment) ≡ count) × (is_some segment ≡ true) → read_kept_bytes true count (kept segment ++ rest) ≡ Ok (segment, rest)
    again (Some bytes) rest h = rw ((bytes_codec count).again bytes rest h.0) refl
    again None rest h = absurd (none h.1)
      where
        none : false ≡ true → ⊥
        none e = cc
kept_bytes_codec false count = record {
  takes = λ from x e.
      let g = unless_ok (ltb 0 count) BAD_CHOICE e in
      let none : count ≡ 0 = omega (arith, ltb-false 0 count g.0) in
      subst (λ (y : Option (List ℕ) × List ℕ). Takes from (kept y.0) y.1 ((length (kept y.0) ≡ count) × (is_some y.0 ≡ false))) g.1
      (record { front = []; split = refl; spelled = λ fits. (refl, fits, (sym none, refl)) });
  again = again;
  counted = λ segment. refl;
}
  where
    again : (segment : Option (List ℕ)) (rest : List ℕ) → (length (kept segment) ≡ count) × (is_some segment ≡ false) → read_kept_bytes false count (kept segment ++ rest) ≡ Ok (segment, rest)
    again None rest h = rw (← h.0) refl
    again (Some bytes) rest h = absurd (some h.1)
      where
        some : true ≡ false → ⊥
        some e = cc

-- what a Copy carries of its segment
kept_codec : (size : ℕ) → size < 256 ^ 4 → IsCodec kept_bytes (λ segment. 1 + COUNT_BYTES + length (kept segment)) (λ segment. size ≡ COPY_BYTES + length (kept segment)) (read_kept size)
unfolding kept_bytes counted_bytes read_kept
kept_codec size small =
    codec_as (λ segment. omega arith) (λ segment h. h.1.0) (λ segment h. (tt, (h, (refl, refl))))
    (then_codec is_some present_codec (λ present segment h. h.1.1)
    (λ present. then_codec (λ segment. length (kept segment)) (last_count_codec COPY_BYTES size small) (λ count segment h. h.0) (kept_bytes_codec present)))

-- a Copy whose length is given
pub copy_codec : (size : ℕ) → size < 256 ^ 4 → IsCodec copy_bytes copy_count (λ copy. IsLawfulCopy copy × (size ≡ copy_count copy)) (read_copy size)
unfolding copy_bytes read_copy
copy_codec size small =
    codec_as (λ copy. omega arith) (λ copy h. (record { tenure = h.0; master = h.1; segment = h.2 }, h.3)) (λ copy h. (h.0.tenure, h.0.master, h.0.segment, h.1))
    (fields4 (λ p. record { tenure = p.0; master = p.1; segment = p.2; bytes = p.3 }) (λ y. (y.tenure, y.master, y.segment, y.bytes)) (λ p. refl) (λ y. refl)
    tenure_codec (number_codec w8 wide8) (number_codec w32 wide32) (kept_codec size small))

-- ---- Rebuilt

-- a Rebuilt whose length is given
pub rebuilt_codec : (size : ℕ) → size < 256 ^ 4 → IsCodec rebuilt_bytes rebuilt_count (λ rebuilt. IsLawfulRebuilt rebuilt × (size ≡ rebuilt_count rebuilt)) (read_rebuilt size)
unfolding rebuilt_bytes read_rebuilt
rebuilt_codec size small =
    codec_as (λ rebuilt. omega arith) (λ rebuilt h. (record { tenure = h.0; place = h.1; ends = h.2.0 }, h.2.1)) (λ rebuilt h. (h.0.tenure, h.0.place, (h.0.ends, h.1)))
    (fields3 (λ p. record { tenure = p.0; place = p.1; ends = p.2 }) (λ y. (y.tenure, y.place, y.ends)) (λ p. refl) (λ y. refl)
    tenure_codec (number_codec w64 wide64) (last_ends_codec REBUILT_BYTES size small))
