-- Lists of ends and items that record the same: what is read of a list in parts records all that the whole does.
use Rattle.std.proofs.Common.{◌≡◌, ℕ, zero, ◌⊎◌, inl, inr, List, [], ◌∷◌, Option, Some, None, refl, ap, ⊎_elim, arith, Contains, suc, ◌<◌}
use Rattle.std.proofs.Common.{◌≤◌, true, false, ◌++◌, length, sym, subst, drop, slice_get, take, flat_map, take-append-drop, append_assoc}
use Rattle.std.proofs.Common.{map, All}
use Rattle.rk_inv_base.proofs.Words.{cases_eq, Contains-append_right, End, Ended, Held, Contains-append_cases, slice_get_within, Range}
use Rattle.rk_inv_base.proofs.Words.{Entry, item_end, items_in, items_of, told_by, is_marked, unmarked_from, counts, Written, map-append}
use Rattle.rk_inv_base.proofs.Words.{flat_map-append, All-contains, All-map, All-weaker, Contains-append_left, told}
use Rattle.rk_inv_logs.proofs.Words.{contains_cases, kept_stands, AreAmong, first_counted, flat_from, flat_of, stands_front, free_place}
use Rattle.rk_inv_logs.proofs.Words.{all_by, one_stands}
use Rattle.rk_inv_tablets.proofs.crash.MergeTells.{item_told, all_stand_told, all_told}
use Rattle.rk_inv_tablets.proofs.crash.Unmarked.{first_stands}
use Rattle.rk_inv_logs.specs.read.ReadBack.{IsReadBack, TellInOrder, all_of}
use Rattle.rk_entry.specs.declared.entry.Entry.TheVariants as entries

-- two things are the same, or differ
abbrev pub IsSame : {X : Type 0} → X → X → Type 0
IsSame x y = (x ≡ y) ⊎ (x ≡ y → ⊥)

-- it is known of each two
abbrev pub AreTold : Type 0 → Type 0
AreTold X = (x y : X) → IsSame x y

-- things of two parts are the same if both parts are, and else differ
both : {X Y : Type 0} (x y : X) (a b : Y) → IsSame x y → IsSame a b → ((x ≡ y) × (a ≡ b)) ⊎ (((x ≡ y) × (a ≡ b)) → ⊥)
both x y a b holds also = grind arith

-- as another thing says it
as_well : {A B : Type 0} → (A → B) → (B → A) → A ⊎ (A → ⊥) → B ⊎ (B → ⊥)
as_well to from (inl a) = inl (to a)
as_well to from (inr none) = inr (λ b. none (from b))

pub lists_told : {X : Type 0} → AreTold X → AreTold (List X)
lists_told told [] [] = inl refl
lists_told told [] (y ∷ ys) = inr (λ e. absurd (cc e))
lists_told told (x ∷ xs) [] = inr (λ e. absurd (cc e))
lists_told {X} told (x ∷ xs) (y ∷ ys) = as_well (λ (p : (x ≡ y) × (xs ≡ ys)). λ i. p.0 i ∷ p.1 i) (λ (e : (x ∷ xs) ≡ (y ∷ ys)). heads e)
    (both x y xs ys (told x y) (lists_told told xs ys))
  where
    heads : (x ∷ xs) ≡ (y ∷ ys) → (x ≡ y) × (xs ≡ ys)
    heads e = let first : x ≡ y = cc e in let others : xs ≡ ys = cc e in (first, others)

pub options_told : {X : Type 0} → AreTold X → AreTold (Option X)
options_told told None None = inl refl
options_told told None (Some y) = inr (λ e. absurd (cc e))
options_told told (Some x) None = inr (λ e. absurd (cc e))
options_told {X} told (Some x) (Some y) = as_well (λ (e : x ≡ y). ap Some e) inside (told x y)
  where
    inside : (Some x ≡ Some y) → x ≡ y
    inside e = cc e

pub numbers_told : AreTold ℕ
numbers_told a b = cases_eq a b

version_told : (make : ℕ → End) (a b : ℕ) → ((make a ≡ make b) → a ≡ b) → IsSame (make a) (make b)
version_told make a b inside = as_well (λ (e : a ≡ b). ap make e) inside (numbers_told a b)

pub ends_told : AreTold Ended
ends_told a b = grind (arith, both, numbers_told, version_told)

pub items_told : AreTold Held
items_told a b = go (numbers_told a.table b.table) (numbers_told a.version b.version) (numbers_told a.client b.client)
    (numbers_told a.seq b.seq) (lists_told numbers_told a.key b.key) (options_told (lists_told numbers_told) a.value b.value)
  where
    go : IsSame a.table b.table → IsSame a.version b.version → IsSame a.client b.client → IsSame a.seq b.seq → IsSame a.key b.key → IsSame a.value b.value → IsSame a b
    go (inr other) v c s k w = inr (λ same. other (ap (λ (x : Held). x.table) same))
    go (inl t) (inr other) c s k w = inr (λ same. other (ap (λ (x : Held). x.version) same))
    go (inl t) (inl v) (inr other) s k w = inr (λ same. other (ap (λ (x : Held). x.client) same))
    go (inl t) (inl v) (inl c) (inr other) k w = inr (λ same. other (ap (λ (x : Held). x.seq) same))
    go (inl t) (inl v) (inl c) (inl s) (inr other) w = inr (λ same. other (ap (λ (x : Held). x.key) same))
    go (inl t) (inl v) (inl c) (inl s) (inl k) (inr other) = inr (λ same. other (ap (λ (x : Held). x.value) same))
    go (inl t) (inl v) (inl c) (inl s) (inl k) (inl w) =
        inl (λ i. record { table = t i; version = v i; client = c i; seq = s i; key = k i; value = w i })

-- whether a thing is in a list
pub stands_or_not : {X : Type 0} → AreTold X → (xs : List X) (x : X) → Contains xs x ⊎ (Contains xs x → ⊥)
stands_or_not told [] x = inr (λ at. omega (arith, at.1))
stands_or_not {X} told (y ∷ xs) x = go (told y x) (stands_or_not told xs x)
  where
    go : IsSame y x → Contains xs x ⊎ (Contains xs x → ⊥) → Contains (y ∷ xs) x ⊎ (Contains (y ∷ xs) x → ⊥)
    go (inl same) later = inl (zero, omega arith, same)
    go (inr other) (inl there) = inl (Contains-append_right (y ∷ []) xs x there)
    go (inr other) (inr none) = inr (λ at. ⊎_elim (λ (same : y ≡ x). other same) (λ (there : Contains xs x). none there) (contains_cases y xs x at))

-- ---- of one kind

-- what these record of a kind, those record
abbrev pub Among : {X : Type 0} → (Entry → List X) → List Entry → List Entry → Type 0
Among {X} f these those = (x : X) → Contains (flat_map f these) x → Contains (flat_map f those) x

pub stand_among : {X : Type 0} (f : Entry → List X) (these those : List Entry) → ((entry : Entry) → Contains these entry → Contains those entry) → Among f these those
stand_among f these those has x at = let of = flat_from f these x at in flat_of f those of.0 x (has of.0 of.1) of.2

-- if no entry records more, all together do not
pub each_among : {X : Type 0} (f : Entry → List X) (these those : List Entry) → ((entry : Entry) → Contains these entry → (x : X) → Contains (f entry) x → Contains (flat_map f those) x) → Among f these those
each_among f these those each x at = let of = flat_from f these x at in each of.0 of.1 x of.2

pub both_among : {X : Type 0} (f : Entry → List X) (a b those : List Entry) → Among f a those → Among f b those → Among f (a ++ b) those
both_among f a b those first second =
    each_among f (a ++ b) those (λ entry at x its. elim (Contains-append_cases a b entry at) [
      | inl here ↦ first x (flat_of f a entry x here its)
      | inr there ↦ second x (flat_of f b entry x there its)
    ])

-- of marked entries, if all marked ones record no more than some entries and those of a member, the free ones of which are among these
-- wherever there is a marked one
pub pieces_among : {X : Type 0} (f : Entry → List X) (here marked front all free sides those : List Entry)
    → ((entry : Entry) → Contains here entry → Contains marked entry)
    → Among f marked (front ++ (all ++ sides)) → Among f front those → Among f free those → Among f sides those
    → ((entry : Entry) → Contains here entry → (other : Entry) → Contains all other → Contains free other)
    → Among f here those
pieces_among f here marked front all free sides those within tells first second third each =
    each_among f here those (λ entry at x its.
    let told = tells x (flat_of f marked entry x (within entry at) its) in
    both_among f front (all ++ sides) those first
    (both_among f all sides those (λ y there. second y (stand_among f all free (each entry at) y there)) third) x told)

-- ---- of both kinds

pub stand_told : (these those : List Entry) → ((entry : Entry) → Contains these entry → Contains those entry) → AreAmong these those
stand_told these those has = (stand_among items_in these those has, stand_among told_by these those has)

pub both_told : (a b those : List Entry) → AreAmong a those → AreAmong b those → AreAmong (a ++ b) those
both_told a b those first second = (both_among items_in a b those first.0 second.0, both_among told_by a b those first.1 second.1)

-- entries that are items record no more than what has these items
pub items_among : (these those : List Entry) → ((entry : Entry) → Contains these entry → (item : Held) × (entries.Held item ≡ entry) × Contains (items_of those) item) → AreAmong these those
items_among these those each = (
  each_among items_in these those (λ entry at x its.
      let found = each entry at in
      one found.0 x (λ y. Contains (items_of those) y) found.2 (subst (λ (e : Entry). Contains (items_in e) x) (sym found.1) its)),
  each_among told_by these those (λ entry at x its.
      let found = each entry at in
      one (item_end found.0) x (λ y. Contains (flat_map told_by those) y) (item_told those found.0 found.2)
      (subst (λ (e : Entry). Contains (told_by e) x) (sym found.1) its)),
)
  where
    one : {X : Type 0} (y x : X) (P : X → Type 0) → P y → Contains (y ∷ []) x → P x
    one y x P its at = subst P (one_stands y x at) its

-- ---- what is read of the last member

module _ {X : Type 0} (told : AreTold X) (f : Entry → List X) (range : Range) (from : ℕ) (last : Written) (count : ℕ) (given own others : List Entry) (own_among : Among f own others) (first_among : Among f (first_counted range from last count) others) where
  -- the first entry that records what is given, and own entries do not record, was read
  abbrev pub FirstIsRead : Type 0
  FirstIsRead =
      (place : ℕ) (entry : Entry) (x : X) → from ≤ place → slice_get last.entries place ≡ Some entry → is_marked last.marks place ≡ false
      → counts range entry ≡ true → Contains (f entry) x → Contains (flat_map f given) x
      → (Contains (flat_map f (own ++ first_counted range from last place)) x → ⊥) → place < count

  module _ (reads : FirstIsRead) (x : X) (wanted : Contains (flat_map f given) x) (none : Contains (flat_map f others) x → ⊥) where
    -- no entry at these places records it
    abbrev NoneBefore : ℕ → Type 0
    NoneBefore bound =
        (place : ℕ) → place < bound → (entry : Entry) → from ≤ place → slice_get last.entries place ≡ Some entry
        → is_marked last.marks place ≡ false → counts range entry ≡ true → Contains (f entry) x → ⊥

    none_first : (bound : ℕ) → NoneBefore bound → Contains (flat_map f (own ++ first_counted range from last bound)) x → ⊥
    none_first bound before at =
        let of = flat_from f (own ++ first_counted range from last bound) x at in
        elim (Contains-append_cases own (first_counted range from last bound) of.0 of.1) [
          | inl here ↦ none (own_among x (flat_of f own of.0 x here of.2))
          | inr there ↦
              let kept = kept_stands (counts range) (unmarked_from last.marks from (take bound last.entries)) of.0 there in
              let is = free_place last.marks from (take bound last.entries) of.0 kept.0 in
              let within = slice_get_within (take bound last.entries) is.place of.0 is.stands in
              before is.place (few bound last.entries is.place within) of.0 is.behind
              (rw (take-append-drop bound last.entries) at
              (stands_front (take bound last.entries) (drop bound last.entries) is.place of.0 is.stands)) is.free kept.1 of.2
        ]
      where
        few : (n : ℕ) (xs : List Entry) (k : ℕ) → k < length (take n xs) → k < n
        few zero xs k less = absurd (omega (arith, less))
        few (suc n) [] k less = absurd (omega (arith, less))
        few (suc n) (y ∷ xs) zero less = omega arith
        few (suc n) (y ∷ xs) (suc k) less = let later = few n xs k (omega (arith, less)) in omega (arith, later)

    none_before : (bound : ℕ) → NoneBefore bound
    none_before zero place less entry behind stands free inside its = omega (arith, less)
    none_before (suc bound) place less entry behind stands free inside its =
        let new = none_first place (λ k few. none_before bound k (omega (arith, less, few))) in
        let before = reads place entry x behind stands free inside its wanted new in
        none
        (first_among x
        (flat_of f (first_counted range from last count) entry x
        (first_stands last.marks range from count last.entries entry (record { place = place; behind = behind; stands = stands; free = free }) before inside) its))

  -- so all that is given is recorded, if own entries and first ones of the member record it
  pub told_with_all : FirstIsRead → (x : X) → Contains (flat_map f given) x → (many : ℕ) → Contains (flat_map f (own ++ first_counted range from last many)) x → Contains (flat_map f others) x
  told_with_all reads x wanted many at = elim (stands_or_not told (flat_map f others) x) [
    | inl there ↦ there
    | inr none ↦ absurd (none_first reads x wanted none many (none_before reads x wanted none many) at)
  ]

-- lists that have no entry
abbrev pub AreNone : List (List Entry) → Type 0
AreNone lists = All (λ list. list ≡ []) lists

module _ (truth rest : List Entry) (before : List (List Entry)) (front part behind left : List Entry) (after : List (List Entry)) where
  -- what was read of the one member, and of all
  abbrev pub line : List Entry
  line = front ++ (part ++ behind)

  abbrev pub all : List (List Entry)
  all = before ++ (front ++ (part ++ behind)) ∷ after

  -- each entry that was read is before the one member, at it, or nowhere
  among_all : {X : Type 0} (f : Entry → List X) → All (λ list. Among f list (truth ++ part)) before → ((entry : Entry) → Contains front entry → Contains truth entry) → Among f behind (truth ++ part) → AreNone after → Among f (all_of all) (truth ++ part)
  among_all {X = X} f earlier fronts later none =
      each_among f (all_of all) (truth ++ part) (λ entry at x its.
      let of = flat_from (λ (list : List Entry). list) all entry at in
      elim (Contains-append_cases before (line ∷ after) of.0 of.1) [
        | inl here ↦
            All-contains (λ (list : List Entry). Among f list (truth ++ part)) before of.0 earlier here x (flat_of f of.0 entry x of.2 its)
        | inr there ↦ elim (contains_cases line after of.0 there) [
          | inl same ↦ in_line entry x its (rw same of.2)
          | inr past ↦
              let empty = All-contains (λ (list : List Entry). list ≡ []) after of.0 none past in
              let nothing : Contains [] entry = rw empty at of.2 in absurd (omega (arith, nothing.1))
        ]
      ])
    where
      in_line : (entry : Entry) (x : X) → Contains (f entry) x → Contains line entry → Contains (flat_map f (truth ++ part)) x
      in_line entry x its at =
          ⊎_elim (λ (here : Contains front entry). flat_of f (truth ++ part) entry x (Contains-append_left truth part entry (fronts entry here)) its)
          (λ (there : Contains (part ++ behind) entry).
          ⊎_elim (λ (here : Contains part entry). flat_of f (truth ++ part) entry x (Contains-append_right truth part entry here) its)
          (λ (past : Contains behind entry). later x (flat_of f behind entry x past its))
          (Contains-append_cases part behind entry there))
          (Contains-append_cases front (part ++ behind) entry at)

  -- what is in one of the lists is of all
  pub line_has : (entry : Entry) → Contains (front ++ (part ++ behind)) entry → Contains (all_of (before ++ (front ++ (part ++ behind)) ∷ after)) entry
  line_has entry at =
      flat_of (λ (list : List Entry). list) all line entry (Contains-append_right before (line ∷ after) line (0, omega arith, refl)) at

  pub before_has : (entry : Entry) → Contains (all_of before) entry → Contains (all_of (before ++ (front ++ (part ++ behind)) ∷ after)) entry
  before_has entry at =
      let of = flat_from (λ (list : List Entry). list) before entry at in
      flat_of (λ (list : List Entry). list) all of.0 entry (Contains-append_left before (line ∷ after) of.0 of.1) of.2

  -- the ends of what was read, in their order
  in_order : ((entry : Entry) → Contains front entry → Contains truth entry) → All (λ list. AreAmong list (truth ++ part)) before → AreAmong behind (truth ++ part) → AreNone after → TellInOrder truth part (before ++ (front ++ (part ++ behind)) ∷ after)
  in_order fronts earlier later none = record {
    before = map told before;
    first = told front;
    behind = told behind;
    after = map told after;
    split = grind (arith, map-append, told, flat_map-append, told_by, append_assoc);
    before_told = All-map (All (Contains (told (truth ++ part)))) told before
        (All-weaker (λ (list : List Entry). AreAmong list (truth ++ part))
        (λ (list : List Entry). All (Contains (told (truth ++ part))) (told list))
        (λ list its. all_by (Contains (told (truth ++ part))) (told list) its.1) before earlier);
    first_told = all_by (Contains (told truth)) (told front) (stand_among told_by front truth fronts);
    behind_told = all_by (Contains (told (truth ++ part))) (told behind) later.1;
    after_none = All-map (λ (ends : List Ended). ends ≡ []) told after
        (All-weaker (λ (list : List Entry). list ≡ []) (λ (list : List Entry). told list ≡ []) (λ list is. ap told is) after none);
  }

  pub read_back : rest ≡ part ++ left
      → ((entry : Entry) → Contains (truth ++ part) entry → Contains (all_of (before ++ (front ++ (part ++ behind)) ∷ after)) entry)
      → ((entry : Entry) → Contains front entry → Contains truth entry)
      → All (λ list. AreAmong list (truth ++ part)) before
      → AreAmong behind (truth ++ part)
      → AreNone after
      → IsReadBack truth rest (before ++ (front ++ (part ++ behind)) ∷ after)
  read_back split has fronts earlier later none = record {
    part = part;
    left = left;
    split = split;
    items = λ item. (
      among_all items_in
          (All-weaker (λ (list : List Entry). AreAmong list (truth ++ part)) (λ (list : List Entry). Among items_in list (truth ++ part))
          (λ list its. its.0) before earlier) fronts later.0 none item,
      stand_among items_in (truth ++ part) (all_of all) has item,
    );
    floor = (all_told (truth ++ part) (all_of all) (all_stand_told (truth ++ part) (all_of all) has)).floor;
    told_all = all_by (Contains (told (all_of all))) (told truth)
        (stand_among told_by truth (all_of all) (λ entry at. has entry (Contains-append_left truth part entry at)));
    ends = in_order fronts earlier later none;
  }
