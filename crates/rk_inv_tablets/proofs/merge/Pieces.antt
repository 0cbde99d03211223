-- A piece that is appended to a log, and bears a mark: it is not seen when marked entries are left out.
use Rattle.std.proofs.Common.{◌≡◌, ℕ, zero, suc, ◌+◌, ◌≤◌, ◌<◌, Bool, true, false, ◌&&◌, cond, leb, ltb, List, [], ◌∷◌, ◌++◌, length, Some}
use Rattle.std.proofs.Common.{refl, sym, ap, ◌∙◌, ⊎_elim, arith, filter, length-drop, length-take, drop, take, slice_get, flat_map, le-leb}
use Rattle.std.proofs.Common.{lt-ltb, take_all, ◌-◌}
use Rattle.rk_inv_base.proofs.Words.{cases_lt, cond-false, cond-true, cond_both, and_left, or_from, or_left, or_parts, or_right}
use Rattle.rk_inv_base.proofs.Words.{drop-append-le, take-append-le, list_any, Range, Entry, is_marked, unmarked}
use Rattle.rk_inv_base.proofs.Words.{unmarked_from, counting, counts, named_by, Mark, marked_entries}
use Rattle.rk_inv_tablets.proofs.Words.{drop_all, lt-leb, drop-append-add, take-append-add}

-- ---- one more mark

-- a place before it is marked as it was
pub marked_before : (marks : List Mark) (mark : Mark) (k : ℕ) → k < mark.first → is_marked (marks ++ mark ∷ []) k ≡ is_marked marks k
marked_before [] mark k less = grind (arith, or_from, leb, ltb, and_left, lt-leb, mark.first, mark.past)
marked_before (other ∷ marks) mark k less = grind (arith, leb, ltb, other.first, other.past, (marked_before marks mark k less))

-- and one in it is marked
pub marked_in : (marks : List Mark) (mark : Mark) (k : ℕ) → mark.first ≤ k → k < mark.past → is_marked (marks ++ mark ∷ []) k ≡ true
marked_in [] mark k from before = grind (arith, or_left, leb, ltb, le-leb, lt-ltb, mark.first, mark.past)
marked_in (other ∷ marks) mark k from before =
    or_right (leb other.first k && ltb k other.past) (is_marked (marks ++ mark ∷ []) k) (marked_in marks mark k from before)

-- entries before it bear marks as they did
pub unmarked_before : (marks : List Mark) (mark : Mark) (place : ℕ) (list : List Entry) → place + length list ≤ mark.first → unmarked (marks ++ mark ∷ []) place list ≡ unmarked marks place list
unmarked_before marks mark place [] within = refl
unmarked_before marks mark place (entry ∷ list) within =
    (λ i.
    cond (marked_before marks mark place (omega (arith, within)) i) (unmarked_before marks mark (suc place) list (omega (arith, within)) i)
    (entry ∷ unmarked_before marks mark (suc place) list (omega (arith, within)) i))

-- entries in it bear marks
pub unmarked_in : (marks : List Mark) (mark : Mark) (place : ℕ) (list : List Entry) → mark.first ≤ place → place + length list ≤ mark.past → unmarked (marks ++ mark ∷ []) place list ≡ []
unmarked_in marks mark place [] from within = refl
unmarked_in marks mark place (entry ∷ list) from within =
    cond-true (is_marked (marks ++ mark ∷ []) place) (unmarked (marks ++ mark ∷ []) (suc place) list)
    (entry ∷ unmarked (marks ++ mark ∷ []) (suc place) list) (marked_in marks mark place from (omega (arith, within)))
    ∙ unmarked_in marks mark (suc place) list (omega (arith, from)) (omega (arith, within))

-- so of entries with the piece behind them those without a mark are those that there were
pub unmarked_piece : (marks : List Mark) (mark : Mark) (place : ℕ) (list piece : List Entry) → place + length list ≡ mark.first → mark.first + length piece ≤ mark.past → unmarked (marks ++ mark ∷ []) place (list ++ piece) ≡ unmarked marks place list
unmarked_piece marks mark place [] piece first past = unmarked_in marks mark place piece (omega (arith, first)) (omega (arith, first, past))
unmarked_piece marks mark place (entry ∷ list) piece first past =
    let at : suc place + length list ≡ mark.first = omega (arith, first) in
    (λ i.
    cond (marked_before marks mark place (omega (arith, first)) i) (unmarked_piece marks mark (suc place) list piece at past i)
    (entry ∷ unmarked_piece marks mark (suc place) list piece at past i))

-- ---- from a place on

-- what is behind a place of entries with more, if that is behind the first ones
pub drop_past : {X : Type 0} (from : ℕ) (xs ys : List X) → length xs ≤ from → (n : ℕ) × (from ≡ length xs + n) × (drop from (xs ++ ys) ≡ drop n ys)
drop_past from xs ys past =
    let at : from ≡ length xs + (from - length xs) = omega (arith, past) in
    (from - length xs, at, ap (λ (n : ℕ). drop n (xs ++ ys)) at ∙ drop-append-add xs ys (from - length xs))

-- so of what is there from a place on nothing more is without a mark
pub from_piece : (marks : List Mark) (mark : Mark) (from : ℕ) (list piece : List Entry) → length list ≡ mark.first → mark.first + length piece ≤ mark.past → unmarked_from (marks ++ mark ∷ []) from (list ++ piece) ≡ unmarked_from marks from list
from_piece marks mark from list piece first past =
    ⊎_elim
    (λ (within : from < length list).
    let size = length-drop from list in
    ap (unmarked (marks ++ mark ∷ []) from) (drop-append-le from list piece (omega (arith, within)))
    ∙ unmarked_piece marks mark from (drop from list) piece (omega (arith, size, first, within)) past)
    (λ (beyond : length list ≤ from).
    let there = drop_past from list piece beyond in
    let at : from ≡ length list + there.0 = there.1 in
    let size = length-drop there.0 piece in
    ⊎_elim
    (λ (inside : there.0 < length piece).
    ap (unmarked (marks ++ mark ∷ []) from) there.2
    ∙ unmarked_in marks mark from (drop there.0 piece) (omega (arith, first, at)) (omega (arith, size, inside, first, past, at)))
    (λ (behind : length piece ≤ there.0). ap (unmarked (marks ++ mark ∷ []) from) (there.2 ∙ drop_all there.0 piece behind))
    (cases_lt there.0 (length piece))
    ∙ sym (ap (unmarked marks from) (drop_all from list beyond)))
    (cases_lt from (length list))

-- the first entries have as many without a mark as before
pub from_front : (marks : List Mark) (mark : Mark) (from : ℕ) (list : List Entry) → length list ≤ mark.first → unmarked_from (marks ++ mark ∷ []) from list ≡ unmarked_from marks from list
from_front marks mark from list within = grind (arith, length-drop, unmarked_before, unmarked, drop_all, cases_lt)

-- the first ones of entries with more, if these are all of the first part and some of the other
pub take_past : {X : Type 0} (n : ℕ) (xs ys : List X) → length xs ≤ n → (k : ℕ) × (take n (xs ++ ys) ≡ xs ++ take k ys)
take_past n xs ys past =
    let at : n ≡ length xs + (n - length xs) = omega (arith, past) in
    (n - length xs, ap (λ (k : ℕ). take k (xs ++ ys)) at ∙ take-append-add xs ys (n - length xs))

-- nor of the first ones of that
pub from_taken : (marks : List Mark) (mark : Mark) (from n : ℕ) (list piece : List Entry) → length list ≡ mark.first → mark.first + length piece ≤ mark.past → unmarked_from (marks ++ mark ∷ []) from (take n (list ++ piece)) ≡ unmarked_from marks from (take n list)
from_taken marks mark from n list piece first past =
    ⊎_elim
    (λ (inside : n < length list).
    let size = length-take n list in
    ap (unmarked_from (marks ++ mark ∷ []) from) (take-append-le n list piece (omega (arith, inside)))
    ∙ from_front marks mark from (take n list) (omega (arith, size, inside, first)))
    (λ (beyond : length list ≤ n).
    let there = take_past n list piece beyond in
    let size = length-take there.0 piece in
    ap (unmarked_from (marks ++ mark ∷ []) from) there.1
    ∙ from_piece marks mark from list (take there.0 piece) first (omega (arith, size, past))
    ∙ sym (ap (unmarked_from marks from) (take_all n list beyond)))
    (cases_lt n (length list))

-- ---- marked entries

-- if nothing is marked from a place on, no entry there is
pub marked_behind : (marks : List Mark) (place : ℕ) (list : List Entry) → ((k : ℕ) → place ≤ k → is_marked marks k ≡ false) → marked_entries marks place list ≡ []
marked_behind marks place [] none = refl
marked_behind marks place (entry ∷ list) none =
    cond-false (is_marked marks place) (entry ∷ marked_entries marks (suc place) list) (marked_entries marks (suc place) list) (none place (omega arith))
    ∙ marked_behind marks (suc place) list (λ k from. none k (omega (arith, from)))

-- so entries with more that bear no mark have those marked that were
pub marked_more : (marks : List Mark) (place : ℕ) (list more : List Entry) → ((k : ℕ) → place + length list ≤ k → is_marked marks k ≡ false) → marked_entries marks place (list ++ more) ≡ marked_entries marks place list
marked_more marks place [] more none = marked_behind marks place more (λ k from. none k (omega (arith, from)))
marked_more marks place (entry ∷ list) more none =
    ap (λ (rest : List Entry). cond (is_marked marks place) (entry ∷ rest) rest)
    (marked_more marks (suc place) list more (λ k from. none k (omega (arith, from))))

pub marked_from_more : (marks : List Mark) (from : ℕ) (list more : List Entry) → ((k : ℕ) → length list ≤ k → is_marked marks k ≡ false) → marked_entries marks from (drop from (list ++ more)) ≡ marked_entries marks from (drop from list)
marked_from_more marks from list more none =
    grind (arith, length-drop, marked_entries, drop-append-le, marked_more, marked_behind, drop_all, cases_lt)

-- ---- what marked entries do not count, all do not

-- nothing is lost with the marked entries, if none of them counts or names a segment
pub free_counting : (range : Range) (marks : List Mark) (place : ℕ) (list : List Entry) → ((k : ℕ) (e : Entry) → slice_get list k ≡ Some e → is_marked marks (place + k) ≡ true → counts range e ≡ false) → counting range list ≡ counting range (unmarked marks place list)
free_counting range marks place [] none = refl
free_counting range marks place (entry ∷ list) none =
    let rest : List Entry = unmarked marks (suc place) list in
    let later : counting range list ≡ counting range rest =
    free_counting range marks (suc place) list
    (λ k e at marked. let same : suc place + k ≡ place + suc k = omega arith in none (suc k) e at (ap (is_marked marks) (sym same) ∙ marked)) in
    cond_both (is_marked marks place) rest (entry ∷ rest) (λ kept. counting range (entry ∷ list) ≡ counting range kept)
    (λ marked.
    let same : place + 0 ≡ place = omega arith in
    cond-false (counts range entry) (entry ∷ counting range list) (counting range list) (none 0 entry refl (ap (is_marked marks) same ∙ marked)) ∙ later)
    (λ free. ap (λ (all : List Entry). cond (counts range entry) (entry ∷ all) all) later)

-- and the same segments are named
pub free_names : (range : Range) (marks : List Mark) (place : ℕ) (list : List Entry) → ((k : ℕ) (e : Entry) → slice_get list k ≡ Some e → is_marked marks (place + k) ≡ true → named_by range e ≡ []) → flat_map (named_by range) list ≡ flat_map (named_by range) (unmarked marks place list)
free_names range marks place [] none = refl
free_names range marks place (entry ∷ list) none =
    let rest : List Entry = unmarked marks (suc place) list in
    let later : flat_map (named_by range) list ≡ flat_map (named_by range) rest =
    free_names range marks (suc place) list
    (λ k e at marked. let same : suc place + k ≡ place + suc k = omega arith in none (suc k) e at (ap (is_marked marks) (sym same) ∙ marked)) in
    cond_both (is_marked marks place) rest (entry ∷ rest) (λ kept. flat_map (named_by range) (entry ∷ list) ≡ flat_map (named_by range) kept)
    (λ marked.
    let same : place + 0 ≡ place = omega arith in
    ap (λ (numbers : List ℕ). numbers ++ flat_map (named_by range) list) (none 0 entry refl (ap (is_marked marks) same ∙ marked)) ∙ later)
    (λ free. ap (λ (numbers : List ℕ). named_by range entry ++ numbers) later)

-- ---- lists of which none passes a test

pub none_filtered : {X : Type 0} (p t : X → Bool) → ((x : X) → t x ≡ false → p x ≡ false) → (xs : List X) → list_any t xs ≡ false → filter p xs ≡ []
none_filtered p t weaker [] none = refl
none_filtered p t weaker (x ∷ xs) none =
    let parts = or_parts (t x) (list_any t xs) none in
    cond-false (p x) (x ∷ filter p xs) (filter p xs) (weaker x parts.0) ∙ none_filtered p t weaker xs parts.1

-- ---- lists with more at their end

-- if nothing passes behind a place, nor of what is appended, nothing does
pub none_more : {X : Type 0} (p : X → Bool) (from : ℕ) (xs ys : List X) → list_any p (drop from xs) ≡ false → list_any p ys ≡ false → list_any p (drop from (xs ++ ys)) ≡ false
none_more p zero [] ys none more = more
none_more p zero (x ∷ xs) ys none more =
    let parts = or_parts (p x) (list_any p xs) none in
    or_from (p x) (list_any p (xs ++ ys)) parts.0 (none_more p zero xs ys parts.1 more)
none_more p (suc from) [] ys none more = none_dropped p (suc from) ys more
  where
    none_dropped : {X : Type 0} (p : X → Bool) (from : ℕ) (ys : List X) → list_any p ys ≡ false → list_any p (drop from ys) ≡ false
    none_dropped p zero ys none = none
    none_dropped p (suc from) [] none = refl
    none_dropped p (suc from) (y ∷ ys) none = none_dropped p from ys (or_parts (p y) (list_any p ys) none).1
none_more p (suc from) (x ∷ xs) ys none more = none_more p from xs ys none more

-- if none of what is appended passes, what passes behind a place is what did
pub kept_more : {X : Type 0} (p : X → Bool) (from : ℕ) (xs ys : List X) → list_any p ys ≡ false → filter p (drop from (xs ++ ys)) ≡ filter p (drop from xs)
kept_more p zero [] ys none = none_filtered p p (λ x fails. fails) ys none
kept_more {X} p zero (x ∷ xs) ys none = ap (λ (rest : List X). cond (p x) (x ∷ rest) rest) (kept_more p zero xs ys none)
kept_more p (suc from) [] [] none = refl
kept_more {X} p (suc from) [] (y ∷ ys) none =
    kept_more p from [] ys (or_parts (p y) (list_any p ys) none).1 ∙ ap (filter p) (drop_all {X = X} from [] (omega arith))
kept_more p (suc from) (x ∷ xs) ys none = kept_more p from xs ys none

pub at_front : {X : Type 0} (xs ys : List X) (k : ℕ) (x : X) → k < length xs → slice_get (xs ++ ys) k ≡ Some x → slice_get xs k ≡ Some x
at_front [] ys k x less at = absurd (omega (arith, less))
at_front (y ∷ xs) ys zero x less at = at
at_front (y ∷ xs) ys (suc k) x less at = at_front xs ys k x (omega (arith, less)) at
