-- Bytes that are cut at the first line feed.
use Rattle.std.proofs.Common.{◌≡◌, ℕ, ◌+◌, ◌<◌, List, ◌∷◌, ◌++◌, length, get_or, take, drop, Bool, true, false, cond, refl, subst, ap, ◌∙◌, arith}
use Rattle.std.specs.Prelude.{◌==◌, Option, Some, None, position}
use Rattle.std.specs.List.{after_first, before_first, position_or_len}
use Rattle.std.proofs.lemmas.Grind.{common_steps}
use Rattle.std.proofs.lemmas.List.Sums.{fails_before_first, passes_at_first, position_or_len_is, split_at_first}
use Rattle.memchr.specs.Find.{IsFirstByte, is_byte}
use Rattle.std.proofs.lemmas.Bool.{ltb-true, ltb-false}
use Rattle.rk_script.specs.declared.script.TheConstants.{LINE_FEED}
use Rattle.rk_script.specs.Reading.{IsWithinLine}

-- whether a byte is a line feed
abbrev pub is_feed : ℕ → Bool
is_feed byte = byte == LINE_FEED

-- a choice of Some is made by a test that holds
pub chosen : (b : Bool) (n i : ℕ) → cond b (Some n) None ≡ Some i → (b ≡ true) × (n ≡ i)
chosen true n i e = (refl, cc)
chosen false n i e = absurd (cc)

-- a choice of None is made by a test that fails
pub refused : (b : Bool) (n : ℕ) → cond b (Some n) None ≡ None → b ≡ false
refused true n e = absurd (cc)
refused false n e = refl

-- the place that `position` finds is that of the first line feed
pub place_of : (xs : List ℕ) (i : ℕ) → position is_feed xs ≡ Some i → (position_or_len is_feed xs < length xs) × (position_or_len is_feed xs ≡ i)
place_of xs i e = grind (arith, chosen, ltb-true)

-- a byte that passes is a line feed
pub feed_is : (byte : ℕ) → (byte == LINE_FEED) ≡ true → byte ≡ LINE_FEED
feed_is byte e = grind (arith, common_steps)

-- bytes are cut at the place that `position` finds
pub cut_at_position : (xs : List ℕ) (i : ℕ) → position is_feed xs ≡ Some i → xs ≡ take i xs ++ LINE_FEED ∷ drop (i + 1) xs
cut_at_position xs i e =
    let found = place_of xs i e in
    let P : ℕ → Type 0 = λ n. xs ≡ take n xs ++ LINE_FEED ∷ drop (n + 1) xs in
    subst P found.1
    (split_at_first is_feed xs 0 found.0
    ∙ ap (λ (byte : ℕ). before_first is_feed xs ++ byte ∷ after_first is_feed xs) (feed_is (get_or xs (position_or_len is_feed xs) 0) (passes_at_first is_feed xs 0 found.0)))

-- before that place there is no line feed
pub line_before_position : (xs : List ℕ) (i : ℕ) → position is_feed xs ≡ Some i → IsWithinLine (take i xs)
line_before_position xs i e =
    let found = place_of xs i e in
    subst (λ (n : ℕ). IsWithinLine (take n xs)) found.1
    (λ k d h. let first = fails_before_first is_feed xs k d (grind (arith, common_steps)) in grind (arith, common_steps))

-- bytes in which `position` finds nothing have no line feed
pub line_without_position : (xs : List ℕ) → position is_feed xs ≡ None → IsWithinLine xs
line_without_position xs e = grind (arith, ltb-false, refused, fails_before_first)

-- a byte that does not pass fails
fails : (b : Bool) → (b ≡ true → ⊥) → b ≡ false
fails true never = absurd (never refl)
fails false never = refl

-- the first byte that is a line feed is at the place that `position` finds
pub place_found : (xs : List ℕ) (r : Option ℕ) → IsFirstByte (is_byte LINE_FEED) xs r → r ≡ position is_feed xs
place_found xs None none =
    let at : position_or_len is_feed xs ≡ length xs =
    position_or_len_is is_feed xs (length xs) 0 (omega arith) (λ k below. fails (is_feed (get_or xs k 0)) (none k (omega arith) below)) (λ short. absurd (omega (arith, short))) in
    grind (arith, at, ltb-false)
place_found xs (Some k) first =
    let at : position_or_len is_feed xs ≡ k =
    position_or_len_is is_feed xs k 0 (omega (arith, first.0.high)) (λ i below. fails (is_feed (get_or xs i 0)) (first.0.before i (omega arith) below)) (λ short. first.1) in
    grind (arith, at, first.0.high, ltb-true)
