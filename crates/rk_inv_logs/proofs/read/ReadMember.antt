-- What counts of a member of which first entries of the log were read, with each side segment that they name: its unmarked entries, first
-- the applied ones, then a first part of the others; then what bears a mark; and then the side segments.
use Rattle.std.proofs.Common.{◌≡◌, ℕ, zero, suc, ◌+◌, ◌-◌, ◌<◌, ◌≤◌, true, false, List, [], ◌∷◌, ◌++◌, length, max, fold, Some, refl, sym}
use Rattle.std.proofs.Common.{ap, subst, ◌∙◌, arith, drop, slice_get, take, Contains, flat_map, take-append-drop, inl, inr, drop-drop}
use Rattle.std.proofs.Common.{length-take}
use Rattle.rk_inv_base.proofs.Words.{cases_Bool, drop_all, cases_lt, cond_both, drop-take, take-append-le, Contains-append_cases}
use Rattle.rk_inv_base.proofs.Words.{Contains-append_left, Contains-append_right, filter-append, slice_get_within, Range, Entry, is_marked}
use Rattle.rk_inv_base.proofs.Words.{unmarked, unmarked_from, counting, counts, log_material, material_of, named, named_by, side_entries}
use Rattle.rk_inv_base.proofs.Words.{with_number, Written, applied_entries, Mark, marked_entries}
use Rattle.rk_inv_tablets.proofs.merge.Pieces.{free_names}
use Rattle.rk_inv_tablets.proofs.ready.OwnItems.{unmarked_at}
use Rattle.rk_inv_logs.proofs.Words.{contains_cases, Extends, counting_extends, still_contains, kept_stands, place_of, sides_extend}
use Rattle.rk_inv_logs.proofs.Words.{stands_front, IsUnmarked, free_place, marked_stands, unmarked_grow}
use Rattle.rk_inv_tablets.proofs.crash.Unmarked.{first_stands}

-- ---- lists

-- a list that has nothing is empty
pub none_there : {X : Type 0} (xs : List X) → ((x : X) → Contains xs x → ⊥) → xs ≡ []
none_there [] none = refl
none_there (x ∷ xs) none = absurd (none x (zero, omega arith, refl))

-- the same for each of some elements
pub flat_same : {X Y : Type 0} (f g : X → List Y) (xs : List X) → ((x : X) → Contains xs x → f x ≡ g x) → flat_map f xs ≡ flat_map g xs
flat_same f g [] same = refl
flat_same f g (x ∷ xs) same =
    λ i. same x (zero, omega arith, refl) i ++ flat_same f g xs (λ y at. same y (Contains-append_right (x ∷ []) xs y at)) i

-- first entries of a list are as many as they are
pub first_taken : {X : Type 0} (xs ys : List X) → take (length xs) (xs ++ ys) ≡ xs
first_taken [] ys = refl
first_taken {X} (x ∷ xs) ys = ap (λ (l : List X). x ∷ l) (first_taken xs ys)

-- ---- entries without a mark

module _ (marks : List Mark) where
  -- up to a place, and from it on
  unmarked_split : (start n : ℕ) (list : List Entry) → unmarked marks start list ≡ unmarked marks start (take n list) ++ unmarked marks (start + n) (drop n list)
  unmarked_split start zero list = let same : start ≡ start + 0 = omega arith in ap (λ (k : ℕ). unmarked marks k list) same
  unmarked_split start (suc n) [] = refl
  unmarked_split start (suc n) (entry ∷ list) = grind (arith, cases_Bool, is_marked, (unmarked_split (suc start) n list))

  -- from a place on up to another, and from there on
  pub from_split : (from n : ℕ) (list : List Entry) → unmarked_from marks from list ≡ unmarked_from marks from (take n list) ++ unmarked_from marks (max from n) list
  from_split from n list =
      let m : ℕ = n - from in
      let at : from + m ≡ max from n = omega arith in
      let front : take m (drop from list) ≡ drop from (take n list) = elim (cases_lt n from) [
        | inl early ↦
            let none : m ≡ 0 = omega (arith, early) in
            ap (λ (k : ℕ). take k (drop from list)) none ∙ sym (drop_all from (take n list) (omega (arith, early, length-take n list)))
        | inr late ↦
            let is : from + m ≡ n = omega (arith, late) in
            sym (drop-take from m list) ∙ ap (λ (k : ℕ). drop from (take k list)) is
      ] in
      unmarked_split from m (drop from list)
      ∙ ap (λ (l : List Entry). unmarked marks from l ++ unmarked marks (from + m) (drop m (drop from list))) front
      ∙ ap (λ (l : List Entry). unmarked marks from (drop from (take n list)) ++ unmarked marks (from + m) l) (drop-drop m from list)
      ∙ ap (λ (k : ℕ). unmarked marks from (drop from (take n list)) ++ unmarked marks k (drop k list)) at

  -- an entry that bears a mark, by its place behind a first one
  abbrev IsMarkedAt : ℕ → List Entry → Entry → Type 0
  IsMarkedAt start list entry = (k : ℕ) × (slice_get list k ≡ Some entry) × (is_marked marks (start + k) ≡ true)

  pub marked_at : (start : ℕ) (list : List Entry) (entry : Entry) → Contains (marked_entries marks start list) entry → IsMarkedAt start list entry
  marked_at start [] entry = λ at. absurd (omega (arith, at.1))
  marked_at start (first ∷ list) entry =
      let here : start + 0 ≡ start = omega arith in
      cond_both (is_marked marks start) (first ∷ marked_entries marks (suc start) list) (marked_entries marks (suc start) list)
      (λ (l : List Entry). Contains l entry → IsMarkedAt start (first ∷ list) entry)
      (λ e at. elim (contains_cases first (marked_entries marks (suc start) list) entry at) [
        | inl same ↦ (zero, ap Some same, ap (is_marked marks) here ∙ e)
        | inr later ↦ behind (marked_at (suc start) list entry later)
      ]) (λ e at. behind (marked_at (suc start) list entry at))
    where
      behind : IsMarkedAt (suc start) list entry → IsMarkedAt start (first ∷ list) entry
      behind found =
          let same : start + suc found.0 ≡ suc start + found.0 = omega arith in
          (suc found.0, found.1, ap (is_marked marks) same ∙ found.2)

  -- each unmarked entry that counts comes before each marked one that does
  abbrev pub StandBefore : Range → ℕ → List Entry → Type 0
  StandBefore range start list =
      (k j : ℕ) (a b : Entry) → slice_get list k ≡ Some a → slice_get list j ≡ Some b → is_marked marks (start + k) ≡ true
      → is_marked marks (start + j) ≡ false → counts range a ≡ true → counts range b ≡ true → j < k

  -- behind a marked entry that counts no unmarked one does
  none_free : (range : Range) (start : ℕ) (entry : Entry) (list : List Entry) → StandBefore range start (entry ∷ list) → counts range entry ≡ true → is_marked marks start ≡ true → counting range (unmarked marks (suc start) list) ≡ []
  none_free range start entry list before inside marked =
      none_there (counting range (unmarked marks (suc start) list))
      (λ other at.
      let kept = kept_stands (counts range) (unmarked marks (suc start) list) other at in
      let found = unmarked_at marks (suc start) list other kept.0 in
      let here : start + 0 ≡ start = omega arith in
      let there : start + suc found.0 ≡ suc start + found.0 = omega arith in
      let less = before 0 (suc found.0) entry other refl found.1 (ap (is_marked marks) here ∙ marked) (ap (is_marked marks) there ∙ found.2) inside kept.1 in
      omega (arith, less))

  -- so it is for the later ones
  stand_later : (range : Range) (start : ℕ) (entry : Entry) (list : List Entry) → StandBefore range start (entry ∷ list) → StandBefore range (suc start) list
  stand_later range start entry list before k j a b one other marked unmarked first second =
      let at_k : start + suc k ≡ suc start + k = omega arith in
      let at_j : start + suc j ≡ suc start + j = omega arith in
      let less = before (suc k) (suc j) a b one other (ap (is_marked marks) at_k ∙ marked) (ap (is_marked marks) at_j ∙ unmarked) first second in
      omega (arith, less)

  -- so what counts are first those and then these
  pub counted_split : (range : Range) (start : ℕ) (list : List Entry) → StandBefore range start list → counting range list ≡ counting range (unmarked marks start list) ++ counting range (marked_entries marks start list)
  counted_split range start [] before = refl
  counted_split range start (entry ∷ list) before =
      grind (
        arith,
        stand_later,
        cases_Bool,
        counts,
        is_marked,
        none_free,
        (counted_split range (suc start) list (stand_later range start entry list before)),
      )

-- ---- what counts of entries of a log

-- of those that bear no mark
abbrev pub free_part : Range → ℕ → Written → List Entry → List Entry
free_part range from w list = counting range (unmarked_from w.marks from list)

-- of those that bear one
abbrev pub marked_part : Range → ℕ → Written → List Entry → List Entry
marked_part range from w list = counting range (marked_entries w.marks from (drop from list))

-- of the side segments that they name
abbrev pub side_part : Range → ℕ → Written → List Entry → List Entry
side_part range from w list = counting range (flat_map (side_entries w.sides) (named range (unmarked_from w.marks from list)))

-- of those that are not applied
abbrev pub later_part : Range → ℕ → Written → List Entry → List Entry
later_part range from w list = counting range (unmarked_from w.marks (max from w.applied) list)

-- these first entries of a log were read, and what is read of each side segment that they name is all of it. What bears a mark names none,
-- and comes behind all that counts and bears none
pub record IsReadLog (range : Range) (from : ℕ) (w : Written) (main : List Entry) (side : ℕ → List Entry) : Type 0 where
  pub more : List Entry
  pub parts : w.entries ≡ main ++ more
  pub enough : w.applied ≤ length main
  pub sides : (number : ℕ) → Contains (named range (drop from main)) number → side number ≡ side_entries w.sides number
  pub bare :
      (place : ℕ) (entry : Entry) → slice_get w.entries place ≡ Some entry → is_marked w.marks place ≡ true
      → named_by range entry ≡ []
  pub last :
      (place : ℕ) (entry : Entry) → slice_get w.entries place ≡ Some entry → is_marked w.marks place ≡ true
      → counts range entry ≡ true → (other : Entry) → (is : IsUnmarked w.marks from w.entries other) → counts range other ≡ true
      → is.place < place

-- what the side segments of first entries have, those of all have
pub side_grow : (range : Range) (from : ℕ) (w : Written) (old new : List Entry) → Extends old new → (entry : Entry) → Contains (side_part range from w old) entry → Contains (side_part range from w new) entry
side_grow range from w old new grown entry at =
    search (still_contains, sides_extend, side_entries, unmarked_from, unmarked_grow, w.sides, w.marks)

pub free_grow : (range : Range) (from : ℕ) (w : Written) (old new : List Entry) → Extends old new → (entry : Entry) → Contains (free_part range from w old) entry → Contains (free_part range from w new) entry
free_grow range from w old new grown entry at =
    still_contains (free_part range from w old) (free_part range from w new) entry (counting_extends range w.marks from old new grown) at

module _ (range : Range) (from : ℕ) (w : Written) (main : List Entry) (side : ℕ → List Entry) (read : IsReadLog range from w main side) where
  -- what is in what was read is in the log, at its place
  at_place : (k : ℕ) (entry : Entry) → slice_get (drop from main) k ≡ Some entry → slice_get w.entries (from + k) ≡ Some entry
  at_place k entry at = rw read.parts (stands_front main read.more (from + k) entry (place_of main from k (from + k) entry refl at))

  order : StandBefore w.marks range from (drop from main)
  order k j a b one other marked free first second =
      let less =
      read.last (from + k) a (at_place k a one) marked first b
      (record { place = from + j; behind = omega arith; stands = at_place j b other; free = free }) second in
      omega (arith, less)

  names_same : named range (drop from main) ≡ named range (unmarked_from w.marks from main)
  names_same = ap (λ (l : List ℕ). fold with_number [] l)
      (free_names range w.marks from (drop from main) (λ k entry at marked. read.bare (from + k) entry (at_place k entry at) marked))

  sides_same : flat_map side (named range (drop from main)) ≡ flat_map (side_entries w.sides) (named range (unmarked_from w.marks from main))
  sides_same =
      flat_same side (side_entries w.sides) (named range (drop from main)) read.sides ∙ ap (flat_map (side_entries w.sides)) names_same

  -- what counts of what was read
  pub counted_parts : material_of range side (drop from main) ≡ (free_part range from w main ++ marked_part range from w main) ++ side_part range from w main
  counted_parts = (λ i. counted_split w.marks range from (drop from main) order i ++ counting range (sides_same i))

  -- of its unmarked entries those that are applied come first
  pub first_entries : take w.applied main ≡ applied_entries w
  first_entries = sym (take-append-le w.applied main read.more read.enough) ∙ ap (take w.applied) (sym read.parts)

  pub free_parts : free_part range from w main ≡ free_part range from w (applied_entries w) ++ later_part range from w main
  free_parts = ap (counting range) (from_split w.marks from w.applied main)
      ∙ filter-append (counts range) (unmarked_from w.marks from (take w.applied main)) (unmarked_from w.marks (max from w.applied) main)
      ∙ ap (λ (l : List Entry). free_part range from w l ++ later_part range from w main) first_entries

  -- those behind them are a first part of all that are not applied
  pub later_extends : Extends (later_part range from w main) (later_part range from w w.entries)
  later_extends = counting_extends range w.marks (max from w.applied) main w.entries (record { more = read.more; parts = read.parts })

  main_extends : Extends main w.entries
  main_extends = record { more = read.more; parts = read.parts }

  applied_extends : Extends (applied_entries w) main
  applied_extends = record {
    more = drop w.applied main;
    parts = sym (take-append-drop w.applied main) ∙ ap (λ (l : List Entry). l ++ drop w.applied main) first_entries;
  }

  -- ---- what is there

  abbrev all : List Entry
  all = material_of range side (drop from main)

  in_all : (entry : Entry) → Contains ((free_part range from w main ++ marked_part range from w main) ++ side_part range from w main) entry → Contains all entry
  in_all entry at = subst (λ (l : List Entry). Contains l entry) (sym counted_parts) at

  free_in : (entry : Entry) → Contains (free_part range from w main) entry → Contains (material_of range side (drop from main)) entry
  free_in entry at =
      in_all entry
      (Contains-append_left (free_part range from w main ++ marked_part range from w main) (side_part range from w main) entry
      (Contains-append_left (free_part range from w main) (marked_part range from w main) entry at))

  -- what is applied was read
  pub truth_in : (entry : Entry) → Contains (log_material range w.marks w.sides from (applied_entries w)) entry → Contains (material_of range side (drop from main)) entry
  truth_in entry at =
      elim (Contains-append_cases (free_part range from w (applied_entries w)) (side_part range from w (applied_entries w)) entry at) [
        | inl free ↦ free_in entry (free_grow range from w (applied_entries w) main applied_extends entry free)
        | inr its ↦
            in_all entry
            (Contains-append_right (free_part range from w main ++ marked_part range from w main) (side_part range from w main) entry
            (side_grow range from w (applied_entries w) main applied_extends entry its))
      ]

  -- and so was the part behind it
  pub part_in : (entry : Entry) → Contains (later_part range from w main) entry → Contains (material_of range side (drop from main)) entry
  part_in entry at =
      free_in entry
      (rw free_parts (Contains-append_right (free_part range from w (applied_entries w)) (later_part range from w main) entry at))

  -- what was read and bears no mark is applied, or of the part
  pub free_from : (entry : Entry) → Contains (free_part range from w main) entry → Contains (free_part range from w (applied_entries w) ++ later_part range from w main) entry
  free_from entry at = subst (λ (l : List Entry). Contains l entry) free_parts at

  -- what was read of it counts of all
  pub free_of_all : (entry : Entry) → Contains (free_part range from w main) entry → Contains (free_part range from w w.entries) entry
  free_of_all entry at = free_grow range from w main w.entries main_extends entry at

  pub side_of_all : (entry : Entry) → Contains (side_part range from w main) entry → Contains (side_part range from w w.entries) entry
  side_of_all entry at = side_grow range from w main w.entries main_extends entry at

  -- a marked entry that was read and counts, at its place
  pub record IsMarkedRead (entry : Entry) : Type 0 where
    pub place : ℕ
    pub behind : from ≤ place
    pub before : place < length main
    pub stands : slice_get w.entries place ≡ Some entry
    pub marked : is_marked w.marks place ≡ true
    pub inside : counts range entry ≡ true

  pub marked_read : (entry : Entry) → Contains (marked_part range from w main) entry → IsMarkedRead entry
  marked_read entry at =
      let kept = kept_stands (counts range) (marked_entries w.marks from (drop from main)) entry at in
      let found = marked_at w.marks from (drop from main) entry kept.0 in
      let there : slice_get main (from + found.0) ≡ Some entry = place_of main from found.0 (from + found.0) entry refl found.1 in
      record {
        place = from + found.0;
        behind = omega arith;
        before = slice_get_within main (from + found.0) entry there;
        stands = at_place found.0 entry found.1;
        marked = found.2;
        inside = kept.1;
      }

  -- if a marked one was read, all that counts and bears no mark was
  pub all_read : (entry : Entry) → Contains (marked_part range from w main) entry → (other : Entry) → Contains (free_part range from w w.entries) other → Contains (free_part range from w main) other
  all_read entry at other there =
      let is = marked_read entry at in
      let kept = kept_stands (counts range) (unmarked_from w.marks from w.entries) other there in
      let free = free_place w.marks from w.entries other kept.0 in
      let less = read.last is.place entry is.stands is.marked is.inside other free kept.1 in
      rw (ap (take (length main)) read.parts ∙ first_taken main read.more) at
      (first_stands w.marks range from (length main) w.entries other free (omega (arith, less, is.before)) kept.1)

  -- what was read and is marked is marked of all
  pub marked_of_all : (entry : Entry) → Contains (marked_part range from w main) entry → Contains (marked_part range from w w.entries) entry
  marked_of_all entry at =
      let is = marked_read entry at in
      marked_stands w.marks range from w.entries is.place entry is.behind is.stands is.marked is.inside
