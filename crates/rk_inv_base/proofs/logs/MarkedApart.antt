-- What is marked in a log is of rows that are rebuilt, and counts for no other row.
use Rattle.rk_inv_base.proofs.Words.{◌≡◌, ℕ, zero, suc, ◌+◌, ◌-◌, ◌<◌, ◌≤◌, true, false, ◌&&◌, List, [], ◌∷◌, Option, Some, None, refl, sym}
use Rattle.rk_inv_base.proofs.Words.{ap, subst, ◌∙◌, ⊎_elim, arith, drop, is_some, nat_le, nat_lt, slice_get, take, Contains, leb-true}
use Rattle.rk_inv_base.proofs.Words.{ltb-true, and_parts, cond-false, cond_both, false≢true, nat_tests, All-contains, Any-from_list_any}
use Rattle.rk_inv_base.proofs.Words.{meets, Member, Range, Entry, number_of, Precedes, row_of, Rebuilding, Row, told, is_marked, counting}
use Rattle.rk_inv_base.proofs.Words.{counts, has_all, Mark, HasOwnRange, IsOfRange, MarkedFit, TellNoMore, marked_entries, member_marked}
use Rattle.rk_inv_base.proofs.Words.{View, SoundView}
use Rattle.rk_inv_base.proofs.Base.{key_outside, one_precedes, behind_at, behind_first, row_in, floor_rises}
use Rattle.rk_inv_base.proofs.rows.Serving.{found_stands}
use Rattle.rk_inv_base.proofs.rows.Apart.{apart_either}

-- ---- places

-- what is behind a place is at a place of its own
pub place_of : {X : Type 0} (xs : List X) (from k place : ℕ) (x : X) → from + k ≡ place → slice_get (drop from xs) k ≡ Some x → slice_get xs place ≡ Some x
place_of xs zero k place x is at = grind arith
place_of [] (suc from) k place x is at = absurd (cc at)
place_of (y ∷ xs) (suc from) k zero x is at = absurd (omega (arith, is))
place_of (y ∷ xs) (suc from) k (suc place) x is at = place_of xs from k place x (omega (arith, is)) at

-- what is at one of the first places is of the first part
pub taken : {X : Type 0} (xs : List X) (n k : ℕ) (x : X) → k < n → slice_get xs k ≡ Some x → Contains (take n xs) x
taken [] n k x less at = absurd (cc at)
taken (y ∷ xs) zero k x less at = absurd (omega (arith, less))
taken (y ∷ xs) (suc n) zero x less at = let same : y ≡ x = cc at in (0, omega arith, same)
taken (y ∷ xs) (suc n) (suc k) x less at = behind_first y (take n xs) x (taken xs n k x (omega (arith, less)) at)

-- what is at a place within a piece is of it
pub in_piece : {X : Type 0} (xs : List X) (first past place : ℕ) (x : X) → first ≤ place → place < past → slice_get xs place ≡ Some x → Contains (take (past - first) (drop first xs)) x
in_piece xs first past place x behind before at =
    let found = behind_at xs first place x behind at in
    let is : first + found.0 ≡ place = found.2 in
    taken (drop first xs) (past - first) found.0 x (omega (arith, is, before)) found.1

-- ---- ranges

-- a range that does not meet a range that is not empty does not have all of it
pub not_all : (a b : Range) → meets a b ≡ false → b.first ≤ b.last → has_all a b ≡ false
not_all a b apart some = grind (arith, nat_tests)

-- an entry of a rebuild of another range does not count
pub entry_apart : (a b : Range) → meets a b ≡ false → meets b a ≡ false → b.first ≤ b.last → (entry : Entry) → IsOfRange a entry → counts b entry ≡ false
entry_apart a b apart back some entry of = grind (arith, key_outside, not_all)

-- if no marked entry counts, nothing does of what is marked
pub none_counted : (range : Range) (marks : List Mark) (list : List Entry) (place : ℕ) → ((k : ℕ) (entry : Entry) → slice_get list k ≡ Some entry → is_marked marks (place + k) ≡ true → counts range entry ≡ false) → counting range (marked_entries marks place list) ≡ []
none_counted range marks [] place none = refl
none_counted range marks (entry ∷ list) place none =
    let more : List Entry = marked_entries marks (suc place) list in
    let later : counting range more ≡ [] =
    none_counted range marks list (suc place)
    (λ k e at marked.
    let same : suc place + k ≡ place + suc k = omega arith in
    none (suc k) e at (subst (λ (n : ℕ). is_marked marks n ≡ true) same marked)) in
    cond_both (is_marked marks place) (entry ∷ more) more (λ kept. counting range kept ≡ [])
    (λ marked.
    let same : place ≡ place + 0 = omega arith in
    cond-false (counts range entry) (entry ∷ counting range more) (counting range more)
    (none 0 entry refl (subst (λ (n : ℕ). is_marked marks n ≡ true) same marked))
    ∙ later)
    (λ unmarked. later)

-- ---- a row that is not rebuilt

module _ (v : View) (row : Row) (sound : SoundView v) (has_row : Contains v.rows row) (some : row.range.first ≤ row.range.last) (never : (lineage : List Member) (to : ℕ) → row.phase ≡ Rebuilding lineage to → ⊥) where
  -- no mark is of its tablet
  unmarked : (q : ℕ) (mark : Mark) → Contains (v.written q).marks mark → mark.tablet ≡ row.tablet → ⊥
  unmarked q mark stands its = grind (arith, row_in)

  -- an entry of a piece of another row does not count
  other_counts : (q : ℕ) (mark : Mark) (other : Row) (entry : Entry) → Contains (v.written q).marks mark → Contains v.rows other → other.tablet ≡ mark.tablet → Contains (take (mark.past - mark.first) (drop mark.first (v.written q).entries)) entry → counts row.range entry ≡ false
  other_counts q mark other entry marked stands same inside =
      let own : HasOwnRange other.range (v.written q).entries mark =
      All-contains (λ m. m.tablet ≡ other.tablet → HasOwnRange other.range (v.written q).entries m)
      (v.written q).marks mark
      ((row_in v sound other stands).rebuilds.pieces q) marked (sym same) in
      let of : IsOfRange other.range entry =
      All-contains (IsOfRange other.range) (take (mark.past - mark.first) (drop mark.first (v.written q).entries)) entry own inside in
      let apart : meets other.range row.range ≡ false =
      ⊎_elim
      (λ (is : row ≡ other). absurd (unmarked q mark marked (sym same ∙ ap (λ (r : Row). r.tablet) (sym is))))
      (⊎_elim
      (λ (before : Precedes row other). apart_either row.range other.range before.apart)
      (λ (behind : Precedes other row). behind.apart))
      (one_precedes v.rows row other sound.rows.apart has_row stands) in
      entry_apart other.range row.range apart (apart_either other.range row.range apart) some entry of

  of_known : (q : ℕ) (mark : Mark) (entry : Entry) → Contains (v.written q).marks mark → Contains (take (mark.past - mark.first) (drop mark.first (v.written q).entries)) entry → (found : Option Row) → row_of v.rows mark.tablet ≡ found → is_some found ≡ true → counts row.range entry ≡ false
  of_known q mark entry marked inside None is known = absurd (false≢true known)
  of_known q mark entry marked inside (Some other) is known =
      other_counts q mark other entry marked (found_stands v.rows mark.tablet other is) (number_of v.rows mark.tablet other is) inside

  -- so no marked entry counts
  marked_apart : (q place : ℕ) (entry : Entry) → slice_get (v.written q).entries place ≡ Some entry → is_marked (v.written q).marks place ≡ true → counts row.range entry ≡ false
  marked_apart q place entry at marked =
      let found = Any-from_list_any (λ (mark : Mark). nat_le mark.first place && nat_lt place mark.past) (v.written q).marks marked in
      let mark : Mark = found.1 in
      let stands : Contains (v.written q).marks mark = (found.0, found.2, found.3) in
      let parts = and_parts (nat_le mark.first place) (nat_lt place mark.past) found.4 in
      of_known q mark entry stands
      (in_piece (v.written q).entries mark.first mark.past place entry (leb-true mark.first place parts.0) (ltb-true place mark.past parts.1) at)
      (row_of v.rows mark.tablet) refl
      (All-contains (λ m. is_some (row_of v.rows m.tablet) ≡ true) (v.written q).marks mark (sound.cover.marks q) stands)

  pub marks_none : (member : Member) → member_marked v.written row.range member ≡ []
  marks_none member =
      none_counted row.range (v.written member.master).marks (drop member.from (v.written member.master).entries) member.from
      (λ k entry at marked.
      marked_apart member.master (member.from + k) entry
      (place_of (v.written member.master).entries member.from k (member.from + k) entry refl at) marked)

  -- and what a member has in marked pieces records nothing new
  tells_none : (member : Member) (others : List Entry) → TellNoMore (member_marked v.written row.range member) others
  tells_none member others = grind (arith, marks_none, told, floor_rises)

  pub marked_fit : (lineage : List Member) → MarkedFit v.logs v.written v.stored v.live row.range lineage
  marked_fit lineage = grind (arith, tells_none)
