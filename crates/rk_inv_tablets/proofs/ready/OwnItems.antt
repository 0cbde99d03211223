-- Items of what counts for a range: each is of an entry that bears it, an item of the range or a Joined that names its segment.
use Rattle.std.proofs.Common.{◌≡◌, ℕ, suc, zero, ◌<◌, ◌+◌, Bool, true, false, ◌||◌, List, [], ◌∷◌, Some, refl, ⊎_elim, ◌⊎◌, inl, inr, arith}
use Rattle.std.proofs.Common.{slice_get, take, Contains, flat_map, not, filter, All}
use Rattle.rk_inv_base.proofs.Words.{or_left, or_right, Contains-append_cases, Contains-append_left, Contains-append_right}
use Rattle.rk_inv_base.proofs.Words.{meets, Held, Range, Entry, is_in, items_in, items_of, is_marked, unmarked, counting, counts}
use Rattle.rk_inv_base.proofs.Words.{is_joined_in, material_of, named, named_by, Mark, All-contains, All-contains_itself, All-weaker}
use Rattle.rk_inv_base.proofs.Words.{list_any_none, list_any, without}
use Rattle.rk_inv_base.proofs.views.Among.{taken_at, taken_from, taken_within, unmarked_stands as stands_free, unmarked_place}
pub use Rattle.rk_inv_base.proofs.views.Among.{from_flat as flat_from, place_in as at_place, to_flat as flat_stands}
pub use Rattle.rk_inv_base.proofs.views.Among.{number_from, number_to as number_stands}
pub use Rattle.rk_inv_base.proofs.Words.{none_stands}
use Rattle.rk_inv_base.proofs.views.Lists.{none_pass}
use Rattle.rk_inv_tablets.proofs.Words.{contains_cases, kept_stands, stands_kept, behind_first}
use Rattle.rk_entry.specs.declared.entry.Entry.TheVariants as entries

-- ---- lists of one and of two

pub one_stands : {X : Type 0} (y x : X) → Contains (y ∷ []) x → y ≡ x
one_stands y x at = ⊎_elim (λ same. same) (λ none. absurd (none_stands x none)) (contains_cases y [] x at)

pub two_stand : {X : Type 0} (y z x : X) → Contains (y ∷ z ∷ []) x → (y ≡ x) ⊎ (z ≡ x)
two_stand y z x at = ⊎_elim (λ same. inl same) (λ later. inr (one_stands z x later)) (contains_cases y (z ∷ []) x at)

-- ---- entries that bear items of a range

abbrev pub is_held_in : Range → Entry → Bool
is_held_in range (entries.Held held) = is_in range held
is_held_in range _ = false

-- whether an entry is an item of a range, or a Joined of it
abbrev pub bears : Range → Entry → Bool
bears range entry = is_held_in range entry || is_joined_in range entry

-- an entry with an item that counts is one
counted_bears : (range : Range) (entry : Entry) (item : Held) → counts range entry ≡ true → Contains (items_in entry) item → is_held_in range entry ≡ true
counted_bears range (entries.Held held) item counted at = counted
counted_bears range _ item counted at = absurd (omega (arith, at.1))

-- with an item of the range it counts
held_counts : (range : Range) (entry : Entry) (item : Held) → is_in range item ≡ true → Contains (items_in entry) item → counts range entry ≡ true
held_counts range entry item inside at = grind (arith, is_in, one_stands)

-- an entry that names a segment is a Joined of the range
pub names_joined : (range : Range) (entry : Entry) (n : ℕ) → Contains (named_by range entry) n → is_joined_in range entry ≡ true
names_joined range entry n at = grind (arith, meets)

-- a segment that is named, is so by a Joined of the range
pub named_from : (range : Range) (list : List Entry) (n : ℕ) → Contains (named range list) n → (e : Entry) × Contains list e × Contains (named_by range e) n × (is_joined_in range e ≡ true)
named_from range list n at =
    ⊎_elim (λ (none : Contains [] n). absurd (omega (arith, none.1)))
    (λ (there : Contains (flat_map (named_by range) list) n).
    let found = flat_from (named_by range) list n there in
    (found.0, found.1, found.2, names_joined range found.0 n found.2))
    (number_from [] (flat_map (named_by range) list) n at)

module _ (range : Range) (side : ℕ → List Entry) (more less : List Entry) where
  -- what is named of some is named of others that have each Joined of the range
  named_into : ((e : Entry) → Contains more e → is_joined_in range e ≡ true → Contains less e) → (n : ℕ) → Contains (named range more) n → Contains (named range less) n
  named_into into n at =
      let found = named_from range more n at in
      number_stands [] (flat_map (named_by range) less) n
      (flat_stands (named_by range) less found.0 n (into found.0 found.1 found.3) found.2)

  -- so are the items of what is named
  pub sides_into : ((e : Entry) → Contains more e → is_joined_in range e ≡ true → Contains less e) → (e : Entry) → Contains (flat_map side (named range more)) e → Contains (flat_map side (named range less)) e
  sides_into into e at =
      let found = flat_from side (named range more) e at in
      flat_stands side (named range less) found.0 e (named_into into found.0 found.1) found.2

  -- and the items of what counts, if the others have each entry that bears them
  pub material_into : ((e : Entry) → Contains more e → bears range e ≡ true → Contains less e) → (item : Held) → Contains (items_of (material_of range side more)) item → Contains (items_of (material_of range side less)) item
  material_into into item at =
      let found = flat_from items_in (material_of range side more) item at in
      let entry : Entry = found.0 in
      let joined : (e : Entry) → Contains more e → is_joined_in range e ≡ true → Contains less e = λ e there is.
      into e there (or_right (is_held_in range e) (is_joined_in range e) is) in
      flat_stands items_in (material_of range side less) entry item
      (⊎_elim
      (λ (first : Contains (counting range more) entry).
      let kept = kept_stands (counts range) more entry first in
      Contains-append_left (counting range less) (counting range (flat_map side (named range less))) entry
      (stands_kept (counts range) less entry
      (into entry kept.0 (or_left (is_held_in range entry) (is_joined_in range entry) (counted_bears range entry item kept.1 found.2)))
      kept.1))
      (λ (second : Contains (counting range (flat_map side (named range more))) entry).
      let kept = kept_stands (counts range) (flat_map side (named range more)) entry second in
      Contains-append_right (counting range less) (counting range (flat_map side (named range less))) entry
      (stands_kept (counts range) (flat_map side (named range less)) entry (sides_into joined entry kept.0) kept.1))
      (Contains-append_cases (counting range more) (counting range (flat_map side (named range more))) entry found.1)) found.2

-- an item of the range that is named counts
pub named_counts : (range : Range) (side : ℕ → List Entry) (list : List Entry) (item : Held) → is_in range item ≡ true → Contains (items_of (flat_map side (named range list))) item → Contains (items_of (material_of range side list)) item
named_counts range side list item inside at =
    let found = flat_from items_in (flat_map side (named range list)) item at in
    flat_stands items_in (material_of range side list) found.0 item
    (Contains-append_right (counting range list) (counting range (flat_map side (named range list))) found.0
    (stands_kept (counts range) (flat_map side (named range list)) found.0 found.1 (held_counts range found.0 item inside found.2))) found.2

-- ---- places

pub stands_at : {X : Type 0} (xs : List X) (k : ℕ) (x : X) → slice_get xs k ≡ Some x → Contains xs x
stands_at [] k x at = absurd (cc at)
stands_at (y ∷ xs) zero x at = let same : y ≡ x = cc at in (0, omega arith, same)
stands_at (y ∷ xs) (suc k) x at = behind_first y xs x (stands_at xs k x at)

-- what is among the first ones is at its place in all, before their end
pub front_at : {X : Type 0} (xs : List X) (n k : ℕ) (x : X) → slice_get (take n xs) k ≡ Some x → (k < n) × (slice_get xs k ≡ Some x)
front_at xs n k x at = (taken_within n xs k x at, taken_from n xs k x at)

pub at_front : {X : Type 0} (xs : List X) (n k : ℕ) (x : X) → k < n → slice_get xs k ≡ Some x → slice_get (take n xs) k ≡ Some x
at_front xs n k x less at = taken_at n xs k x less at

-- an entry that bears no mark is among the unmarked ones, and each of these bears none
pub unmarked_stands : (marks : List Mark) (place : ℕ) (list : List Entry) (k : ℕ) (e : Entry) → slice_get list k ≡ Some e → is_marked marks (place + k) ≡ false → Contains (unmarked marks place list) e
unmarked_stands marks place list k e at bare = stands_free marks place k list e at bare

pub unmarked_at : (marks : List Mark) (place : ℕ) (list : List Entry) (e : Entry) → Contains (unmarked marks place list) e → (k : ℕ) × (slice_get list k ≡ Some e) × (is_marked marks (place + k) ≡ false)
unmarked_at marks place list e at = let found = unmarked_place marks place list e at in (found.k, found.at, found.free)

-- ---- tests that none passes

-- one of a list passes no test that none of the list passes
pub fails_at : {X : Type 0} (test : X → Bool) (xs : List X) (x : X) → list_any test xs ≡ false → Contains xs x → test x ≡ false
fails_at test xs x none stands = none_pass test xs none x stands

-- so none of what is left passes it
pub none_remains : (test : Held → Bool) (old new : List Held) → ((item : Held) → Contains new item → Contains old item) → list_any test old ≡ false → list_any test new ≡ false
none_remains test old new stood none =
    list_any_none test new
    (All-weaker _ _ (λ item stands. fails_at test old item none (stood item stands)) new
    (All-contains_itself new))

-- what all had, all that are left have
pub all_remain : (P : Held → Type 0) (old new : List Held) → ((item : Held) → Contains new item → Contains old item) → All P old → All P new
all_remain P old new stood all =
    All-weaker _ _ (λ item stands. All-contains P old item all (stood item stands)) new (All-contains_itself new)

-- ---- what is dropped

-- nothing that passes a test is left once all that passes it is dropped
none_passes : {X : Type 0} (test : X → Bool) (xs : List X) → list_any test (filter (λ x. not (test x)) xs) ≡ false
none_passes test [] = refl
none_passes {X} test (x ∷ xs) = grind (arith, (none_passes test xs))

pub none_left : (range : Range) (records : List Held) → list_any (is_in range) (without range records) ≡ false
none_left range records = none_passes (is_in range) records
