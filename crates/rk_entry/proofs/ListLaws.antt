-- A list that is read is spelled so, and a list that is spelled so is read.
use Rattle.std.proofs.Common.{◌≡◌, ℕ, zero, suc, ◌<◌, Bool, true, false, eqb, List, [], ◌∷◌, ◌++◌, length, Ok, refl, sym, ap, subst, ◌∙◌, append_assoc}
use Rattle.std.specs.Prelude.{◌||◌}
use Rattle.std.specs.List.{AllByRecursion, IsDistinct}
use Rattle.std.specs.Int.{w32}
use Rattle.std.proofs.lemmas.List.{append-nil}
use Rattle.std.proofs.lemmas.List.Concat.{flat_map-cons}
use Rattle.rk_types.specs.declared.call.Ended.{Ended}
use Rattle.rk_entry.specs.declared.error.TheConstants.{BAD_CHOICE}
use Rattle.rk_entry.specs.declared.lists.TheConstants.{FIRST_SIDE_SEGMENT}
use Rattle.rk_entry.specs.Numbers.{number_bytes, IsNumber, read_from}
use Rattle.rk_entry.specs.Ends.{end_bytes, IsLawfulEnd, RiseAbove, read_end}
use Rattle.rk_entry.specs.Lists.{ends_bytes, read_ends, segments_bytes, is_among, read_segment, read_segments}
use Rattle.rk_entry.proofs.Tools.{bind_ok, unless_ok, ok_is, Takes, takes_both, takes_weaker}
use Rattle.rk_entry.proofs.NumberLaws.{wide32, from_takes, from_again}
use Rattle.rk_entry.proofs.EndLaws.{end_takes, end_again}

-- what was read of ends behind those before
pub record TakesEnds (count above : ℕ) (before : List Ended) (bytes : List ℕ) (all : List Ended) (rest : List ℕ) : Type 0 where
  pub more : List Ended
  pub whole : all ≡ before ++ more
  pub counted : length more ≡ count
  pub taken : Takes bytes (ends_bytes more) rest (AllByRecursion IsLawfulEnd more × RiseAbove above more)

-- the first end is spelled before the others
ends_bytes-cons : (e : Ended) (ends : List Ended) → ends_bytes (e ∷ ends) ≡ end_bytes e ++ ends_bytes ends
unfolding ends_bytes
ends_bytes-cons e ends = flat_map-cons end_bytes e ends

-- no ends are spelled by no bytes
no_ends : ends_bytes [] ≡ []
unfolding ends_bytes
no_ends = refl

-- ends that are read are lawful, rise and are spelled so
pub ends_take : (count above : ℕ) (before : List Ended) (bytes : List ℕ) (x : List Ended × List ℕ) → read_ends count above before bytes ≡ Ok x → TakesEnds count above before bytes x.0 x.1
unfolding read_ends
ends_take zero above before bytes x e =
    let none : Takes bytes [] bytes (AllByRecursion IsLawfulEnd [] × RiseAbove above []) = record { front = []; split = refl; spelled = λ fits. (refl, fits, (tt, tt)) } in
    subst (λ (y : List Ended × List ℕ). TakesEnds 0 above before bytes y.0 y.1) (ok_is (before, bytes) x e) (record {
      more = [];
      whole = sym (append-nil before);
      counted = refl;
      taken = subst (λ (t : List ℕ). Takes bytes t bytes (AllByRecursion IsLawfulEnd [] × RiseAbove above [])) (sym no_ends) none;
    })
ends_take (suc count) above before bytes x e =
    let a = bind_ok (read_end above bytes) e in
    let others = ends_take count a.0.0.client (before ++ a.0.0 ∷ []) a.0.1 x a.2 in
    let both = takes_both (end_takes above bytes a.0 a.1) others.taken in
    record {
      more = a.0.0 ∷ others.more;
      whole = others.whole ∙ append_assoc before (a.0.0 ∷ []) others.more;
      counted = ap suc others.counted;
      taken = subst (λ (t : List ℕ). Takes bytes t x.1 (AllByRecursion IsLawfulEnd (a.0.0 ∷ others.more) × RiseAbove above (a.0.0 ∷ others.more))) (sym (ends_bytes-cons a.0.0 others.more))
          (takes_weaker (λ (h : (IsLawfulEnd a.0.0 × (above < a.0.0.client)) × (AllByRecursion IsLawfulEnd others.more × RiseAbove a.0.0.client others.more)). ((h.0.0, h.1.0), (h.0.1, h.1.1))) both);
    }

-- lawful ends that rise and are spelled are read
pub ends_again : (above : ℕ) (before ends : List Ended) (rest : List ℕ) → AllByRecursion IsLawfulEnd ends → RiseAbove above ends → read_ends (length ends) above before (ends_bytes ends ++ rest) ≡ Ok (before ++ ends, rest)
unfolding read_ends
ends_again above before [] rest each rising = rw (no_ends, append-nil before) refl
ends_again above before (e ∷ ends) rest each rising =
    let regrouped : ends_bytes (e ∷ ends) ++ rest ≡ end_bytes e ++ (ends_bytes ends ++ rest) = ap (λ (t : List ℕ). t ++ rest) (ends_bytes-cons e ends) ∙ append_assoc (end_bytes e) (ends_bytes ends) rest in
    let others = ends_again e.client (before ++ e ∷ []) ends rest each.1 rising.1 in
    ap (read_ends (suc (length ends)) above before) regrouped
    ∙ rw (end_again above e (ends_bytes ends ++ rest) each.0 rising.0) (others ∙ ap (λ (all : List Ended). Ok (all, rest)) (append_assoc before (e ∷ []) ends))

-- ---- numbers of side segments

-- if the `or` of two tests fails, both fail
both_false : (a b : Bool) → (a || b) ≡ false → (a ≡ false) × (b ≡ false)
both_false true b e = absurd cc
both_false false b e = (refl, e)

-- what holds of all and of one more holds of all with it
all_push : (P : ℕ → Type 0) (xs : List ℕ) (y : ℕ) → AllByRecursion P xs → P y → AllByRecursion P (xs ++ y ∷ [])
all_push P [] y all last = (last, tt)
all_push P (x ∷ xs) y all last = (all.0, all_push P xs y all.1 last)

-- what holds of all holds of one in the middle
all_at : (P : ℕ → Type 0) (xs : List ℕ) (y : ℕ) (ys : List ℕ) → AllByRecursion P (xs ++ y ∷ ys) → P y
all_at P [] y ys all = all.0
all_at P (x ∷ xs) y ys all = all_at P xs y ys all.1

-- a number that is not among distinct numbers may be put behind them
distinct_push : (xs : List ℕ) (y : ℕ) → is_among y xs ≡ false → IsDistinct eqb xs → IsDistinct eqb (xs ++ y ∷ [])
unfolding IsDistinct
distinct_push [] y other distinct = (tt, tt)
distinct_push (x ∷ xs) y other distinct =
    let parts = both_false (eqb x y) (is_among y xs) other in
    (all_push (λ z. eqb x z ≡ false) xs y distinct.0 parts.0, distinct_push xs y parts.1 distinct.1)

-- of distinct numbers, none is among those before it
distinct_among : (xs : List ℕ) (y : ℕ) (ys : List ℕ) → IsDistinct eqb (xs ++ y ∷ ys) → is_among y xs ≡ false
unfolding IsDistinct
distinct_among [] y ys distinct = refl
distinct_among (x ∷ xs) y ys distinct =
    let here : eqb x y ≡ false = all_at (λ z. eqb x z ≡ false) xs y ys distinct.0 in
    rw here (distinct_among xs y ys distinct.1)

-- what was read of numbers behind those before
pub record TakesSegments (count : ℕ) (before bytes all rest : List ℕ) : Type 0 where
  pub more : List ℕ
  pub whole : all ≡ before ++ more
  pub counted : length more ≡ count
  pub distinct : IsDistinct eqb before → IsDistinct eqb all
  pub taken : Takes bytes (segments_bytes more) rest (AllByRecursion (IsNumber w32 FIRST_SIDE_SEGMENT) more)

-- the first number is spelled before the others
segments_bytes-cons : (n : ℕ) (segments : List ℕ) → segments_bytes (n ∷ segments) ≡ number_bytes w32 n ++ segments_bytes segments
unfolding segments_bytes
segments_bytes-cons n segments = flat_map-cons (number_bytes w32) n segments

-- no numbers are spelled by no bytes
no_segments : segments_bytes [] ≡ []
unfolding segments_bytes
no_segments = refl

-- the number of a side segment that is read is none of those before, and spelled so
segment_takes : (before bytes : List ℕ) (x : ℕ × List ℕ) → read_segment before bytes ≡ Ok x → (is_among x.0 before ≡ false) × Takes bytes (number_bytes w32 x.0) x.1 (IsNumber w32 FIRST_SIDE_SEGMENT x.0)
unfolding read_segment
segment_takes before bytes x e =
    let a = bind_ok (read_from w32 FIRST_SIDE_SEGMENT bytes) e in
    let g = unless_ok (is_among a.0.0 before) BAD_CHOICE a.2 in
    subst (λ (y : ℕ × List ℕ). (is_among y.0 before ≡ false) × Takes bytes (number_bytes w32 y.0) y.1 (IsNumber w32 FIRST_SIDE_SEGMENT y.0)) g.1
    (g.0, from_takes w32 wide32 FIRST_SIDE_SEGMENT bytes a.0 a.1)

-- the number of a side segment that is none of those before and is spelled is read
segment_again : (before : List ℕ) (n : ℕ) (rest : List ℕ) → IsNumber w32 FIRST_SIDE_SEGMENT n → is_among n before ≡ false → read_segment before (number_bytes w32 n ++ rest) ≡ Ok (n, rest)
unfolding read_segment
segment_again before n rest lawful other = rw (from_again w32 wide32 FIRST_SIDE_SEGMENT n rest lawful, other) refl

-- numbers of side segments that are read are distinct and spelled so
pub segments_take : (count : ℕ) (before bytes : List ℕ) (x : List ℕ × List ℕ) → read_segments count before bytes ≡ Ok x → TakesSegments count before bytes x.0 x.1
unfolding read_segments
segments_take zero before bytes x e =
    let none : Takes bytes [] bytes (AllByRecursion (IsNumber w32 FIRST_SIDE_SEGMENT) []) = record { front = []; split = refl; spelled = λ fits. (refl, fits, tt) } in
    subst (λ (y : List ℕ × List ℕ). TakesSegments 0 before bytes y.0 y.1) (ok_is (before, bytes) x e) (record {
      more = [];
      whole = sym (append-nil before);
      counted = refl;
      distinct = λ h. h;
      taken = subst (λ (t : List ℕ). Takes bytes t bytes (AllByRecursion (IsNumber w32 FIRST_SIDE_SEGMENT) [])) (sym no_segments) none;
    })
segments_take (suc count) before bytes x e =
    let a = bind_ok (read_segment before bytes) e in
    let first = segment_takes before bytes a.0 a.1 in
    let others = segments_take count (before ++ a.0.0 ∷ []) a.0.1 x a.2 in
    let both = takes_both first.1 others.taken in
    record {
      more = a.0.0 ∷ others.more;
      whole = others.whole ∙ append_assoc before (a.0.0 ∷ []) others.more;
      counted = ap suc others.counted;
      distinct = λ h. others.distinct (distinct_push before a.0.0 first.0 h);
      taken = subst (λ (t : List ℕ). Takes bytes t x.1 (AllByRecursion (IsNumber w32 FIRST_SIDE_SEGMENT) (a.0.0 ∷ others.more))) (sym (segments_bytes-cons a.0.0 others.more))
          (takes_weaker (λ (h : IsNumber w32 FIRST_SIDE_SEGMENT a.0.0 × AllByRecursion (IsNumber w32 FIRST_SIDE_SEGMENT) others.more). (h.0, h.1)) both);
    }

-- distinct numbers of side segments that are spelled are read
pub segments_again : (before segments rest : List ℕ) → AllByRecursion (IsNumber w32 FIRST_SIDE_SEGMENT) segments → IsDistinct eqb (before ++ segments)
    → read_segments (length segments) before (segments_bytes segments ++ rest) ≡ Ok (before ++ segments, rest)
unfolding read_segments
segments_again before [] rest each distinct = rw (no_segments, append-nil before) refl
segments_again before (n ∷ segments) rest each distinct =
    let regrouped : segments_bytes (n ∷ segments) ++ rest ≡ number_bytes w32 n ++ (segments_bytes segments ++ rest) = ap (λ (t : List ℕ). t ++ rest) (segments_bytes-cons n segments) ∙ append_assoc (number_bytes w32 n) (segments_bytes segments) rest in
    let longer : IsDistinct eqb ((before ++ n ∷ []) ++ segments) = subst (λ (all : List ℕ). IsDistinct eqb all) (sym (append_assoc before (n ∷ []) segments)) distinct in
    let others = segments_again (before ++ n ∷ []) segments rest each.1 longer in
    ap (read_segments (suc (length segments)) before) regrouped
    ∙ rw (segment_again before n (segments_bytes segments ++ rest) each.0 (distinct_among before n segments distinct)) (others ∙ ap (λ (all : List ℕ). Ok (all, rest)) (append_assoc before (n ∷ []) segments))
