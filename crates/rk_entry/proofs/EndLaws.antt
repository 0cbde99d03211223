-- A range or an end that is read is spelled so, and a range or an end that is spelled so is read.
use Rattle.std.proofs.Common.{◌≡◌, ℕ, ◌^◌, ◌<◌, Bool, true, false, cond, ltb, leb, eqb, List, ◌++◌, Ok, Err, refl, sym, ap, subst, append_assoc, arith, inl, inr}
use Rattle.std.specs.Prelude.{◌⊎◌}
use Rattle.std.specs.Int.{w8, w32, w64}
use Rattle.std.proofs.lemmas.Bool.{ltb-false, eqb-true}
use Rattle.std.proofs.lemmas.Bool.Decides.{nat_tests}
use Rattle.rk_types.specs.declared.range.Range.{Range}
use Rattle.rk_types.specs.declared.call.End.{End}
use Rattle.rk_types.specs.declared.call.End.TheVariants.{Written, Deleted, Absent, Mismatch}
use Rattle.rk_types.specs.declared.call.Ended.{Ended}
use Rattle.rk_entry.specs.declared.error.DecodeError.TheVariants.{Bad}
use Rattle.rk_entry.specs.declared.error.TheConstants.{BAD_NUMBER, BAD_CHOICE}
use Rattle.rk_entry.specs.declared.fields.ends.TheConstants.{WRITTEN, DELETED, ABSENT, MISMATCH}
use Rattle.rk_entry.specs.Steps.{unless}
use Rattle.rk_entry.specs.Numbers.{number_bytes, IsNumber, read_number, read_from}
use Rattle.rk_entry.specs.Ends.{range_bytes, IsLawfulRange, read_range, outcome_bytes, IsLawfulOutcome, read_version, read_absent, read_tagged, read_outcome, end_bytes, IsLawfulEnd, read_end}
use Rattle.rk_entry.proofs.Tools.{bind_ok, unless_ok, ok_is, Takes, takes_both, takes_weaker}
use Rattle.rk_entry.proofs.NumberLaws.{wide8, wide32, wide64, number_takes, number_again, from_takes, from_again}

-- a range that is read is lawful and spelled so
pub range_takes : (bytes : List ℕ) (x : Range × List ℕ) → read_range bytes ≡ Ok x → Takes bytes (range_bytes x.0) x.1 (IsLawfulRange x.0)
unfolding read_range range_bytes
range_takes bytes x e =
    let a = bind_ok (read_from w64 1 bytes) e in
    let b = bind_ok (read_number w64 a.0.1) a.2 in
    let c = bind_ok (read_from w64 b.0.0 b.0.1) b.2 in
    let range : Range = record { table = a.0.0; first = b.0.0; last = c.0.0 } in
    let all = takes_both (from_takes w64 wide64 1 bytes a.0 a.1) (takes_both (number_takes w64 wide64 a.0.1 b.0 b.1) (from_takes w64 wide64 b.0.0 b.0.1 c.0 c.1)) in
    subst (λ (y : Range × List ℕ). Takes bytes (range_bytes y.0) y.1 (IsLawfulRange y.0)) (ok_is (range, c.0.1) x c.2)
    (takes_weaker (λ (h : IsNumber w64 1 a.0.0 × ((b.0.0 < 256 ^ 8) × IsNumber w64 b.0.0 c.0.0)).
    record { table = h.0; first = record { least_is = omega arith; fits = h.1.0 }; last = h.1.1 }) all)

-- a lawful range that is spelled is read
pub range_again : (range : Range) (rest : List ℕ) → IsLawfulRange range → read_range (range_bytes range ++ rest) ≡ Ok (range, rest)
unfolding read_range range_bytes
range_again range rest h =
    let table = number_bytes w64 range.table in
    let first = number_bytes w64 range.first in
    let last = number_bytes w64 range.last in
    rw (
      append_assoc table (first ++ last) rest,
      append_assoc first last rest,
      from_again w64 wide64 1 range.table (first ++ (last ++ rest)) h.table,
      number_again w64 wide64 range.first (last ++ rest) h.first.fits,
      from_again w64 wide64 range.first range.last rest h.last,
    ) refl

-- a choice that was made by a test
pub chosen : {A : Type 0} (b : Bool) (x y z : A) → cond b x y ≡ z → ((b ≡ true) × (x ≡ z)) ⊎ ((b ≡ false) × (y ≡ z))
chosen true x y z e = inl (refl, e)
chosen false x y z e = inr (refl, e)

-- what a tag and a version make
version_takes : (tag least : ℕ) (outcome : ℕ → End) (bytes : List ℕ) (x : End × List ℕ)
    → ((n : ℕ) → outcome_bytes (outcome n) ≡ number_bytes w8 tag ++ number_bytes w64 n) → ((n : ℕ) → IsNumber w64 least n → IsLawfulOutcome (outcome n))
    → read_version least outcome bytes ≡ Ok x
    → (text : List ℕ) × (number_bytes w8 tag ++ text ≡ outcome_bytes x.0) × Takes bytes text x.1 (IsLawfulOutcome x.0)
unfolding read_version
version_takes tag least outcome bytes x spells lawful e =
    let a = bind_ok (read_from w64 least bytes) e in
    let made : End × List ℕ = (outcome a.0.0, a.0.1) in
    subst (λ (y : End × List ℕ). (text : List ℕ) × (number_bytes w8 tag ++ text ≡ outcome_bytes y.0) × Takes bytes text y.1 (IsLawfulOutcome y.0)) (ok_is made x a.2)
    (number_bytes w64 a.0.0, sym (spells a.0.0), takes_weaker (lawful a.0.0) (from_takes w64 wide64 least bytes a.0 a.1))

-- the version beside the tag Absent is spelled as 0
absent_takes : (bytes : List ℕ) (x : End × List ℕ) → read_absent bytes ≡ Ok x
    → (text : List ℕ) × (number_bytes w8 ABSENT ++ text ≡ outcome_bytes x.0) × Takes bytes text x.1 (IsLawfulOutcome x.0)
unfolding read_absent outcome_bytes
absent_takes bytes x e =
    let a = bind_ok (read_number w64 bytes) e in
    let g = unless_ok (ltb 0 a.0.0) BAD_NUMBER a.2 in
    let none : a.0.0 ≡ 0 = omega (arith, ltb-false 0 a.0.0 g.0) in
    subst (λ (y : End × List ℕ). (text : List ℕ) × (number_bytes w8 ABSENT ++ text ≡ outcome_bytes y.0) × Takes bytes text y.1 (IsLawfulOutcome y.0)) g.1
    (number_bytes w64 a.0.0, ap (λ (n : ℕ). number_bytes w8 ABSENT ++ number_bytes w64 n) none, takes_weaker (λ (fits : a.0.0 < 256 ^ 8). tt) (number_takes w64 wide64 bytes a.0 a.1))

-- how a record that was written is spelled
written_bytes : (n : ℕ) → outcome_bytes (Written n) ≡ number_bytes w8 WRITTEN ++ number_bytes w64 n
unfolding outcome_bytes
written_bytes n = refl

-- how a record that was removed is spelled
deleted_bytes : (n : ℕ) → outcome_bytes (Deleted n) ≡ number_bytes w8 DELETED ++ number_bytes w64 n
unfolding outcome_bytes
deleted_bytes n = refl

-- how another version that was met is spelled
mismatch_bytes : (n : ℕ) → outcome_bytes (Mismatch n) ≡ number_bytes w8 MISMATCH ++ number_bytes w64 n
unfolding outcome_bytes
mismatch_bytes n = refl

-- an outcome that is read after its tag is lawful and spelled so with it
tagged_takes : (tag : ℕ) (bytes : List ℕ) (x : End × List ℕ) → read_tagged tag bytes ≡ Ok x
    → (text : List ℕ) × (number_bytes w8 tag ++ text ≡ outcome_bytes x.0) × Takes bytes text x.1 (IsLawfulOutcome x.0)
unfolding read_tagged
tagged_takes tag bytes x e =
    let P : ℕ → Type 0 = λ t. (text : List ℕ) × (number_bytes w8 t ++ text ≡ outcome_bytes x.0) × Takes bytes text x.1 (IsLawfulOutcome x.0) in
    elim (chosen (eqb tag WRITTEN) _ _ _ e) [
      | inl h ↦ subst P (sym (eqb-true tag WRITTEN h.0)) (version_takes WRITTEN 1 Written bytes x written_bytes (λ n lawful. lawful) h.1)
      | inr h ↦ elim (chosen (eqb tag DELETED) _ _ _ h.1) [
        | inl h ↦ subst P (sym (eqb-true tag DELETED h.0)) (version_takes DELETED 1 Deleted bytes x deleted_bytes (λ n lawful. lawful) h.1)
        | inr h ↦ elim (chosen (eqb tag ABSENT) _ _ _ h.1) [
          | inl h ↦ subst P (sym (eqb-true tag ABSENT h.0)) (absent_takes bytes x h.1)
          | inr h ↦ elim (chosen (eqb tag MISMATCH) _ _ _ h.1) [
            | inl h ↦ subst P (sym (eqb-true tag MISMATCH h.0)) (version_takes MISMATCH 0 Mismatch bytes x mismatch_bytes (λ n lawful. lawful) h.1)
            | inr h ↦ absurd (not_read x h.1)
          ]
        ]
      ]
    ]
  where
    not_read : (x : End × List ℕ) → Err (Bad BAD_CHOICE) ≡ Ok x → ⊥
    not_read x e = cc

-- an outcome that is read is lawful and spelled so
pub outcome_takes : (bytes : List ℕ) (x : End × List ℕ) → read_outcome bytes ≡ Ok x → Takes bytes (outcome_bytes x.0) x.1 (IsLawfulOutcome x.0)
unfolding read_outcome
outcome_takes bytes x e =
    let a = bind_ok (read_number w8 bytes) e in
    let t = tagged_takes a.0.0 a.0.1 x a.2 in
    subst (λ (text : List ℕ). Takes bytes text x.1 (IsLawfulOutcome x.0)) t.1
    (takes_weaker (λ (h : (a.0.0 < 256) × IsLawfulOutcome x.0). h.1) (takes_both (number_takes w8 wide8 bytes a.0 a.1) t.2))

-- a lawful outcome that is spelled is read
pub outcome_again : (outcome : End) (rest : List ℕ) → IsLawfulOutcome outcome → read_outcome (outcome_bytes outcome ++ rest) ≡ Ok (outcome, rest)
unfolding read_outcome outcome_bytes read_tagged read_version read_absent
outcome_again (Written n) rest h =
    rw (append_assoc (number_bytes w8 WRITTEN) (number_bytes w64 n) rest, number_again w8 wide8 WRITTEN (number_bytes w64 n ++ rest) (omega arith), from_again w64 wide64 1 n rest h) refl
outcome_again (Deleted n) rest h =
    rw (append_assoc (number_bytes w8 DELETED) (number_bytes w64 n) rest, number_again w8 wide8 DELETED (number_bytes w64 n ++ rest) (omega arith), from_again w64 wide64 1 n rest h) refl
outcome_again Absent rest h =
    rw (append_assoc (number_bytes w8 ABSENT) (number_bytes w64 0) rest, number_again w8 wide8 ABSENT (number_bytes w64 0 ++ rest) (omega arith), number_again w64 wide64 0 rest (omega arith)) refl
outcome_again (Mismatch n) rest h =
    rw (append_assoc (number_bytes w8 MISMATCH) (number_bytes w64 n) rest, number_again w8 wide8 MISMATCH (number_bytes w64 n ++ rest) (omega arith), from_again w64 wide64 0 n rest h) refl

-- an end that is read is lawful, of a client above the one before, and spelled so
pub end_takes : (above : ℕ) (bytes : List ℕ) (x : Ended × List ℕ) → read_end above bytes ≡ Ok x → Takes bytes (end_bytes x.0) x.1 (IsLawfulEnd x.0 × (above < x.0.client))
unfolding read_end end_bytes
end_takes above bytes x e =
    let a = bind_ok (read_from w32 1 bytes) e in
    let b = bind_ok (unless (leb a.0.0 above) BAD_CHOICE a.0) a.2 in
    let g = unless_ok (leb a.0.0 above) BAD_CHOICE b.1 in
    let c = bind_ok (read_from w64 1 b.0.1) b.2 in
    let d = bind_ok (read_outcome c.0.1) c.2 in
    let made : Ended × List ℕ = (record { client = b.0.0; seq = c.0.0; end = d.0.0 }, d.0.1) in
    let first : Takes bytes (number_bytes w32 b.0.0) b.0.1 (IsNumber w32 1 b.0.0 × (above < b.0.0)) =
    subst (λ (y : ℕ × List ℕ). Takes bytes (number_bytes w32 y.0) y.1 (IsNumber w32 1 y.0 × (above < y.0))) g.1
    (takes_weaker (λ (h : IsNumber w32 1 a.0.0). (h, above_is above a.0.0 g.0)) (from_takes w32 wide32 1 bytes a.0 a.1)) in
    let all = takes_both first (takes_both (from_takes w64 wide64 1 b.0.1 c.0 c.1) (outcome_takes c.0.1 d.0 d.1)) in
    subst (λ (y : Ended × List ℕ). Takes bytes (end_bytes y.0) y.1 (IsLawfulEnd y.0 × (above < y.0.client))) (ok_is made x d.2)
    (takes_weaker (λ (h : (IsNumber w32 1 b.0.0 × (above < b.0.0)) × (IsNumber w64 1 c.0.0 × IsLawfulOutcome d.0.0)).
    (record { client = h.0.0; seq = h.1.0; outcome = h.1.1 }, h.0.1)) all)
  where
    above_is : (above n : ℕ) → leb n above ≡ false → above < n
    above_is above n e = grind (arith, nat_tests)

-- a lawful end of a client above the one before that is spelled is read
pub end_again : (above : ℕ) (e : Ended) (rest : List ℕ) → IsLawfulEnd e → above < e.client → read_end above (end_bytes e ++ rest) ≡ Ok (e, rest)
unfolding read_end end_bytes
end_again above e rest h higher =
    let client = number_bytes w32 e.client in
    let seq = number_bytes w64 e.seq in
    let outcome = outcome_bytes e.end in
    let lawful : leb e.client above ≡ false = grind (arith, nat_tests) in
    rw (
      append_assoc client (seq ++ outcome) rest,
      append_assoc seq outcome rest,
      from_again w32 wide32 1 e.client (seq ++ (outcome ++ rest)) h.client,
      lawful,
      from_again w64 wide64 1 e.seq (outcome ++ rest) h.seq,
      outcome_again e.end rest h.outcome,
    ) refl
