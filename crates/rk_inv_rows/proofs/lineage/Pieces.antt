-- What bears a mark in a log is of a row that is rebuilt: no Joined does, and it counts for no other row.
use Rattle.std.proofs.Common.{◌≡◌, ℕ, suc, ◌-◌, Bool, true, false, cond, List, [], ◌∷◌, Option, Some, refl, ap, arith, drop}
use Rattle.std.proofs.Common.{is_some, slice_get, take, Contains}
use Rattle.rk_inv_base.proofs.Words.{false_from_ne_true, false≢true, All-contains, Range, Entry, Joined, number_of, row_of, Row, is_marked}
use Rattle.rk_inv_base.proofs.Words.{unmarked, counting, counts, Mark, IsOfRange, marked_entries, View, SoundView}
use Rattle.rk_inv_base.proofs.views.Among.{IsCovered, covered_by}
use Rattle.rk_inv_rows.proofs.Words.{in_piece, found_stands, row_in}
use Rattle.rk_entry.specs.declared.entry.Entry.TheVariants as entries

-- an entry is of the range of the row of a tablet
pub record IsOfRow (rows : List Row) (tablet : ℕ) (entry : Entry) : Type 0 where
  pub row : Row
  pub stands : Contains rows row
  pub number : row.tablet ≡ tablet
  pub of : IsOfRange row.range entry

module _ (v : View) (sound : SoundView v) (q : ℕ) where
  of_known : (mark : Mark) (entry : Entry) → Contains (v.written q).marks mark → Contains (take (mark.past - mark.first) (drop mark.first (v.written q).entries)) entry → (found : Option Row) → row_of v.rows mark.tablet ≡ found → is_some found ≡ true → IsOfRow v.rows mark.tablet entry
  of_known mark entry marked inside found is known = grind (arith, false≢true, found_stands, row_in, number_of)

  -- a marked entry is of the range of the row of the mark's tablet
  pub covered_of : (place : ℕ) (entry : Entry) → slice_get (v.written q).entries place ≡ Some entry → (covered : IsCovered (v.written q).marks place) → IsOfRow v.rows covered.mark.tablet entry
  covered_of place entry at covered =
      of_known covered.mark entry covered.stands
      (in_piece (v.written q).entries covered.mark.first covered.mark.past place entry covered.first covered.past at)
      (row_of v.rows covered.mark.tablet) refl
      (All-contains (λ m. is_some (row_of v.rows m.tablet) ≡ true) (v.written q).marks covered.mark (sound.cover.marks q) covered.stands)

  -- so a Joined bears none
  pub joined_unmarked : (place : ℕ) (joined : Joined) → slice_get (v.written q).entries place ≡ Some (entries.Joined joined) → is_marked (v.written q).marks place ≡ false
  joined_unmarked place joined at =
      false_from_ne_true (is_marked (v.written q).marks place)
      (λ marked.
      let is = covered_of place (entries.Joined joined) at (covered_by (v.written q).marks place marked) in is.of)

-- ---- if nothing that is marked counts, the same counts without it

-- the first of some entries, if none of them counts
first_counts : (range : Range) (b : Bool) (entry : Entry) (list : List Entry) → counts range entry ≡ b → counting range (entry ∷ list) ≡ [] → (b ≡ false) × (counting range list ≡ [])
first_counts range b entry list is none = grind (arith, counting)

-- an entry that does not count goes
without_first : (range : Range) (entry : Entry) (list : List Entry) → counts range entry ≡ false → counting range (entry ∷ list) ≡ counting range list
without_first range entry list none = ap (λ (b : Bool). cond b (entry ∷ counting range list) (counting range list)) none

-- nothing that is marked counts among entries of which the first is at this place
abbrev NoneCounts : Range → List Mark → ℕ → List Entry → Type 0
NoneCounts range marks place list = counting range (marked_entries marks place list) ≡ []

-- of a first part nothing marked counts either
first_taken : (range : Range) (marked : Bool) (entry : Entry) (many few : List Entry) → (counting range many ≡ [] → counting range few ≡ []) → counting range (cond marked (entry ∷ many) many) ≡ [] → counting range (cond marked (entry ∷ few) few) ≡ []
first_taken range marked entry many few later none = grind (arith, first_counts, counts, without_first)

none_taken : (range : Range) (marks : List Mark) (place n : ℕ) (list : List Entry) → NoneCounts range marks place list → NoneCounts range marks place (take n list)
none_taken range marks place (suc n) (entry ∷ list) none =
    first_taken range (is_marked marks place) entry (marked_entries marks (suc place) list) (marked_entries marks (suc place) (take n list))
    (none_taken range marks (suc place) n list) none
none_taken range marks place _ _ none = refl

-- the same of two lists counts
abbrev CountAs : Range → List Entry → List Entry → Type 0
CountAs range these those = counting range these ≡ counting range those

first_same : (range : Range) (marked : Bool) (entry : Entry) (gone free list : List Entry) → (counting range gone ≡ [] → CountAs range free list) → counting range (cond marked (entry ∷ gone) gone) ≡ [] → CountAs range (cond marked free (entry ∷ free)) (entry ∷ list)
first_same range marked entry gone free list later none = grind (arith, first_counts, counts, without_first)

-- what bears no mark counts as all does
same_counts : (range : Range) (marks : List Mark) (place : ℕ) (list : List Entry) → NoneCounts range marks place list → CountAs range (unmarked marks place list) list
same_counts range marks place [] none = refl
same_counts range marks place (entry ∷ list) none =
    first_same range (is_marked marks place) entry (marked_entries marks (suc place) list) (unmarked marks (suc place) list) list
    (same_counts range marks (suc place) list) none

pub taken_counts : (range : Range) (marks : List Mark) (place n : ℕ) (list : List Entry) → NoneCounts range marks place list → counting range (unmarked marks place (take n list)) ≡ counting range (take n list)
taken_counts range marks place n list none = same_counts range marks place (take n list) (none_taken range marks place n list none)
