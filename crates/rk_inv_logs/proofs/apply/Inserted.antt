-- Lists of entries into which others came: what more they record, also when one entry came in that has the newest item of its key, and how
-- the next entry of a log comes to what is applied.
use Rattle.std.proofs.Common.{◌≡◌, Bool, List, [], ◌++◌, ap, sym, ◌∙◌, subst, inl, inr, ◌⊎◌, append_assoc, filter, Contains, flat_map, ℕ}
use Rattle.std.proofs.Common.{◌+◌, ◌≤◌, ◌<◌, max, true, false, ◌∷◌, Some, refl, arith, fold, All, length, drop, take, slice_get}
use Rattle.std.proofs.Common.{length-take-le}
use Rattle.rk_inv_base.proofs.Words.{Contains-append_cases, Contains-append_left, Contains-append_right, filter-append, Entry, cases_Bool}
use Rattle.rk_inv_base.proofs.Words.{flat_map-append, All-contains, All-head, fold-append, Held, filter_kept, filter_left_out, newest_is}
use Rattle.rk_inv_base.proofs.Words.{newer_item, newest_from-append, with_newer_here, with_newer_other, none_stands, stands_cases}
use Rattle.rk_inv_base.proofs.Words.{is_of_from, is_of_parts, is_of, newest, none_found, IsPlain, items_in, items_of, floor_by, floor_of}
use Rattle.rk_inv_base.proofs.Words.{AreAbove, IsAboveAll, first_stands, drop-append-le, get_or_from_slice_get, slice_get_within, list_any}
use Rattle.rk_inv_base.proofs.Words.{Range, unmarked, unmarked_from, is_marked, counting, counts, material_of, named, named_by, Mark}
use Rattle.rk_inv_base.proofs.Words.{list_any_none, false_from_ne_true}
use Rattle.rk_inv_base.proofs.views.Lists.{none_kept, none_pass}
use Rattle.rk_inv_rows.proofs.lineage.Among.{later_stands}
use Rattle.rk_inv_logs.proofs.Words.{append_nil, flat_from, flat_of, newest_from-same, newest_from-stays, drop_more, take_more, drop_none}
use Rattle.rk_inv_logs.proofs.Words.{named_same, unless_marked, unmarked_from_last, above_fewer, one_stands, all_by, filter_stands}
use Rattle.rk_overlay.specs.Newest.{Found, newest_from, with_newer}
use Rattle.rk_inv_base.proofs.logs.Floors.{floor_append}
use Rattle.rk_entry.specs.declared.entry.Entry.TheVariants as entries

-- a list has a block of entries more, at some place
pub record HasMore (old now : List Entry) : Type 0 where
  pub before : List Entry
  pub block : List Entry
  pub behind : List Entry
  pub old_is : old ≡ before ++ behind
  pub now_is : now ≡ before ++ (block ++ behind)

-- nothing was put in
abbrev pub more_none : {list now : List Entry} → now ≡ list → HasMore list now
more_none {list} same =
    record { before = list; block = []; behind = []; old_is = sym (append_nil list); now_is = same ∙ sym (append_nil list) }

module _ {old now : List Entry} (more : HasMore old now) where
  abbrev pub more_behind : (front : List Entry) → HasMore (front ++ old) (front ++ now)
  more_behind front = record {
    before = front ++ more.before;
    block = more.block;
    behind = more.behind;
    old_is = ap (λ (l : List Entry). front ++ l) more.old_is ∙ sym (append_assoc front more.before more.behind);
    now_is = ap (λ (l : List Entry). front ++ l) more.now_is ∙ sym (append_assoc front more.before (more.block ++ more.behind));
  }

  abbrev pub more_before : (back : List Entry) → HasMore (old ++ back) (now ++ back)
  more_before back = record {
    before = more.before;
    block = more.block;
    behind = more.behind ++ back;
    old_is = ap (λ (l : List Entry). l ++ back) more.old_is ∙ append_assoc more.before more.behind back;
    now_is = ap (λ (l : List Entry). l ++ back) more.now_is ∙ append_assoc more.before (more.block ++ more.behind) back
        ∙ ap (λ (l : List Entry). more.before ++ l) (append_assoc more.block more.behind back);
  }

  abbrev pub more_kept : (p : Entry → Bool) → HasMore (filter p old) (filter p now)
  more_kept p = record {
    before = filter p more.before;
    block = filter p more.block;
    behind = filter p more.behind;
    old_is = ap (filter p) more.old_is ∙ filter-append p more.before more.behind;
    now_is = ap (filter p) more.now_is ∙ filter-append p more.before (more.block ++ more.behind)
        ∙ ap (λ (l : List Entry). filter p more.before ++ l) (filter-append p more.block more.behind);
  }

  -- the block is there, and what was there still is; nothing else
  pub more_there : (e : Entry) → Contains more.block e → Contains now e
  more_there e at =
      rw more.now_is
      (Contains-append_right more.before (more.block ++ more.behind) e (Contains-append_left more.block more.behind e at))

  pub more_still : (e : Entry) → Contains old e → Contains now e
  more_still e at = rw more.now_is
      (elim (Contains-append_cases more.before more.behind e (subst (λ (l : List Entry). Contains l e) more.old_is at)) [
        | inl front ↦ Contains-append_left more.before (more.block ++ more.behind) e front
        | inr back ↦ Contains-append_right more.before (more.block ++ more.behind) e (Contains-append_right more.block more.behind e back)
      ])

  pub more_cases : (e : Entry) → Contains now e → Contains more.block e ⊎ Contains old e
  more_cases e at =
      elim (Contains-append_cases more.before (more.block ++ more.behind) e (subst (λ (l : List Entry). Contains l e) more.now_is at)) [
        | inl front ↦ inr (rw more.old_is (Contains-append_left more.before more.behind e front))
        | inr later ↦ elim (Contains-append_cases more.block more.behind e later) [
          | inl new ↦ inl new
          | inr back ↦ inr (rw more.old_is (Contains-append_right more.before more.behind e back))
        ]
      ]

-- what fewer entries give, more entries give too
pub told_among : {X : Type 0} (f : Entry → List X) (few many : List Entry) → ((e : Entry) → Contains few e → Contains many e) → (x : X) → Contains (flat_map f few) x → Contains (flat_map f many) x
told_among f few many within x at = let of = flat_from f few x at in flat_of f many of.0 x (within of.0 of.1) of.2

-- a list has one more entry, at some place
pub record IsInserted (entry : Entry) (old new : List Entry) : Type 0 where
  pub before : List Entry
  pub behind : List Entry
  pub old_is : old ≡ before ++ behind
  pub new_is : new ≡ before ++ entry ∷ behind

-- at the end
pub inserted_last : (entry : Entry) (list : List Entry) → IsInserted entry list (list ++ entry ∷ [])
inserted_last entry list = record { before = list; behind = []; old_is = sym (append_nil list); new_is = refl }

-- that is one entry more
abbrev pub more_one : {entry : Entry} {old now : List Entry} → IsInserted entry old now → HasMore old now
more_one {entry} put =
    record { before = put.before; block = entry ∷ []; behind = put.behind; old_is = put.old_is; now_is = put.new_is }

abbrev of_one : {entry : Entry} {old new : List Entry} (more : HasMore old new) → more.block ≡ entry ∷ [] → IsInserted entry old new
of_one {entry} more is = record {
  before = more.before;
  behind = more.behind;
  old_is = more.old_is;
  new_is = more.now_is ∙ ap (λ (l : List Entry). more.before ++ (l ++ more.behind)) is;
}

module _ (entry : Entry) (old new : List Entry) (put : IsInserted entry old new) where
  -- behind others, before others, and among those that pass a test
  pub inserted_behind : (front : List Entry) → IsInserted entry (front ++ old) (front ++ new)
  inserted_behind front = of_one (more_behind (more_one put) front) refl

  pub inserted_before : (back : List Entry) → IsInserted entry (old ++ back) (new ++ back)
  inserted_before back = of_one (more_before (more_one put) back) refl

  pub inserted_kept : (p : Entry → Bool) → p entry ≡ true → IsInserted entry (filter p old) (filter p new)
  inserted_kept p passes = of_one (more_kept (more_one put) p) (filter_kept p entry [] passes)

  pub inserted_out : (p : Entry → Bool) → p entry ≡ false → filter p new ≡ filter p old
  inserted_out p fails = grind (arith, filter-append, filter_left_out)

  -- ---- what a function gives of the entries

  module _ {X : Type 0} (f : Entry → List X) where
    parts_now : flat_map f new ≡ flat_map f put.before ++ (f entry ++ flat_map f put.behind)
    parts_now = ap (flat_map f) put.new_is ∙ flat_map-append f put.before (entry ∷ put.behind)

    parts_old : flat_map f old ≡ flat_map f put.before ++ flat_map f put.behind
    parts_old = ap (flat_map f) put.old_is ∙ flat_map-append f put.before put.behind

    -- what it gave is still given, and so is what it gives of the entry
    pub told_still : (x : X) → Contains (flat_map f old) x → Contains (flat_map f new) x
    told_still = told_among f old new (more_still (more_one put))

    pub told_new : (x : X) → Contains (f entry) x → Contains (flat_map f new) x
    told_new x at = flat_of f new entry x (more_there (more_one put) entry (first_stands entry [])) at

    -- and nothing else is
    pub told_cases : (x : X) → Contains (flat_map f new) x → Contains (f entry) x ⊎ Contains (flat_map f old) x
    told_cases x at = let of = flat_from f new x at in elim (more_cases (more_one put) of.0 of.1) [
      | inl its ↦ inl (subst (λ (e : Entry). Contains (f e) x) (sym (one_stands entry of.0 its)) of.2)
      | inr was ↦ inr (flat_of f old of.0 x was of.2)
    ]

-- ---- floors

-- what an entry raises a floor to
abbrev pub height : Entry → ℕ
height (entries.Held held) = held.version + 1
height (entries.Carried carried) = carried.floor
height _ = 0

pub raised : (floor : ℕ) (entry : Entry) → floor_by floor entry ≡ max floor (height entry)
raised floor entry = grind arith

raised_either : (floor : ℕ) (a b : Entry) → floor_by (floor_by floor a) b ≡ floor_by (floor_by floor b) a
raised_either floor a b = omega (arith, raised (floor_by floor a) b, raised floor a, raised (floor_by floor b) a, raised floor b)

floor_moved : (floor : ℕ) (entry : Entry) (behind rest : List Entry) → fold floor_by floor (entry ∷ (behind ++ rest)) ≡ fold floor_by floor (behind ++ entry ∷ rest)
floor_moved floor entry [] rest = refl
floor_moved floor entry (first ∷ behind) rest = ap (λ (n : ℕ). fold floor_by n (behind ++ rest)) (raised_either floor entry first)
    ∙ floor_moved (floor_by floor first) entry behind rest

-- the floor is the same wherever the entry is, and as great with it
pub floor_inserted : (entry : Entry) (old new rest : List Entry) → IsInserted entry old new → floor_of (new ++ rest) ≡ floor_of (old ++ entry ∷ rest)
floor_inserted entry old new rest put = grind (arith, floor_of, append_assoc, fold-append, floor_by, floor_moved)

pub floor_more : (entry : Entry) (old new : List Entry) → IsInserted entry old new → floor_of old ≤ floor_of new
floor_more entry old new put =
    let same = ap floor_of (sym (append_nil new)) ∙ floor_inserted entry old new [] put in
    let rises : floor_of old ≤ floor_of (old ++ entry ∷ []) = floor_append 1 old (entry ∷ []) in
    omega (arith, same, rises)

-- ---- items

-- an item that is above each other one of its key is the newest wherever it is
module _ (before behind rest : List Held) (item : Held) (above : IsAboveAll (before ++ behind) item) (table : ℕ) (key : List ℕ) where
  -- what was found is older
  older : (list : List Held) → ((x : Held) → Contains list x → Contains (before ++ behind) x) → is_of table key item ≡ true → (old : Held) → newest list table key ≡ Some old → old.version < item.version
  older list within here old is =
      let at = newest_is list table key old is in
      let its = is_of_parts table key item here in
      let same = is_of_parts table key old at.of_record in
      All-contains (λ (other : Held). is_of item.table item.key other ≡ true → other.version < item.version) (before ++ behind) old above
      (within old at.stands) (is_of_from item.table item.key old (same.0 ∙ sym its.0) (same.1 ∙ sym its.1))

  moved_found : newest_from (with_newer (newest before) item) behind table key ≡ with_newer (newest (before ++ behind)) item table key
  moved_found = elim (cases_Bool (is_of table key item)) [
    | inl here ↦ newest_from-stays (with_newer (newest before) item) behind table key item
        (with_newer_here (newest before) item table key here
        ∙ ap Some (newer_item (newest before table key) item (older before (λ x at. Contains-append_left before behind x at) here)))
        (λ other at of.
        let its = is_of_parts table key item here in
        let same = is_of_parts table key other of in
        let below : other.version < item.version =
        All-contains (λ (other : Held). is_of item.table item.key other ≡ true → other.version < item.version) (before ++ behind) other
        above (Contains-append_right before behind other at)
        (is_of_from item.table item.key other (same.0 ∙ sym its.0) (same.1 ∙ sym its.1)) in
        omega (arith, below))
        ∙ sym
        (with_newer_here (newest (before ++ behind)) item table key here
        ∙ ap Some (newer_item (newest (before ++ behind) table key) item (older (before ++ behind) (λ x at. at) here)))
    | inr other ↦ newest_from-same (with_newer (newest before) item) (newest before) behind table key
        (with_newer_other (newest before) item table key other)
        ∙ ap (λ (f : Found). f table key) (sym (newest_from-append none_found before behind))
        ∙ sym (with_newer_other (newest (before ++ behind)) item table key other)
  ]

  newest_moved : newest (before ++ item ∷ (behind ++ rest)) table key ≡ newest ((before ++ behind) ++ item ∷ rest) table key
  newest_moved = grind (arith, newest_from-append, none_found, newest, newest_from-same, moved_found)

-- the items of an entry are above those of others
abbrev pub AreNewest : List Entry → Entry → Type 0
AreNewest others entry = All (IsAboveAll (items_of others)) (items_in entry)

-- two items of one entry are one
pub one_item : (entry : Entry) (a b : Held) → Contains (items_in entry) a → Contains (items_in entry) b → a ≡ b
one_item entry a b at_a at_b = grind (arith, none_stands, stands_cases)

-- without an item in the entry the items are the same
pub same_items : (entry : Entry) (old new : List Entry) → IsInserted entry old new → items_in entry ≡ [] → items_of new ≡ items_of old
same_items entry old new put none = parts_now entry old new put items_in
    ∙ ap (λ (l : List Held). items_of put.before ++ (l ++ items_of put.behind)) none ∙ sym (parts_old entry old new put items_in)

without_items : (entry : Entry) (old new rest : List Entry) → IsInserted entry old new → items_in entry ≡ [] → items_of (new ++ rest) ≡ items_of (old ++ entry ∷ rest)
without_items entry old new rest put none = grind (arith, items_of, flat_map-append, items_in, same_items)

module _ (old new : List Entry) where
  -- so the newest of each key is the same wherever the entry is
  pub newest_inserted : (entry : Entry) (rest : List Entry) → IsInserted entry old new → AreNewest old entry → (table : ℕ) (key : List ℕ) → newest (items_of (new ++ rest)) table key ≡ newest (items_of (old ++ entry ∷ rest)) table key
  newest_inserted (entries.Held held) rest put above table key =
      let b : List Held = items_of put.before in
      let h : List Held = items_of put.behind in
      let r : List Held = items_of rest in
      let old_items : items_of old ≡ b ++ h = ap items_of put.old_is ∙ flat_map-append items_in put.before put.behind in
      let here : items_of (new ++ rest) ≡ b ++ held ∷ (h ++ r) =
      ap (λ (l : List Entry). items_of (l ++ rest)) put.new_is ∙ ap items_of (append_assoc put.before (entries.Held held ∷ put.behind) rest)
      ∙ flat_map-append items_in put.before (entries.Held held ∷ (put.behind ++ rest))
      ∙ ap (λ (l : List Held). b ++ held ∷ l) (flat_map-append items_in put.behind rest) in
      let there = flat_map-append items_in old (entries.Held held ∷ rest) ∙ ap (λ (l : List Held). l ++ held ∷ r) old_items in
      ap (λ (l : List Held). newest l table key) here
      ∙ newest_moved b h r held (rw old_items at (All-head (IsAboveAll (items_of old)) held [] above)) table key
      ∙ ap (λ (l : List Held). newest l table key) (sym there)
  newest_inserted (entries.Refused refused) rest put above table key = grind (arith, newest, without_items, entries.Refused)
  newest_inserted (entries.Carried carried) rest put above table key = grind (arith, newest, without_items, entries.Carried)
  newest_inserted (entries.Joined joined) rest put above table key = grind (arith, newest, without_items, entries.Joined)

  -- items of one key and version are one, still
  pub plain_inserted : (entry : Entry) → IsInserted entry old new → AreNewest old entry → IsPlain (items_of old) → IsPlain (items_of new)
  plain_inserted entry put above plain a b at_a at_b table key version = elim (told_cases entry old new put items_in a at_a) [
    | inl own_a ↦ elim (told_cases entry old new put items_in b at_b) [
      | inl own_b ↦ one_item entry a b own_a own_b
      | inr old_b ↦
          let below : b.version < a.version = below a b own_a old_b (sym table) (sym key) in
          absurd (omega (arith, below, version))
    ]
    | inr old_a ↦ elim (told_cases entry old new put items_in b at_b) [
      | inl own_b ↦ let below : a.version < b.version = below b a own_b old_a table key in absurd (omega (arith, below, version))
      | inr old_b ↦ plain a b old_a old_b table key version
    ]
  ]
    where
      below : (x y : Held) → Contains (items_in entry) x → Contains (items_of old) y → y.table ≡ x.table → y.key ≡ x.key → y.version < x.version
      below x y own there table key =
          All-contains (λ (other : Held). is_of x.table x.key other ≡ true → other.version < x.version) (items_of old) y
          (All-contains (IsAboveAll (items_of old)) (items_in entry) x above own) there (is_of_from x.table x.key y table key)

-- ---- the order of items

-- the first of what is above a list, and what is above that list with it
pub above_first : (truth rest : List Entry) (entry : Entry) → AreAbove (items_of truth) (items_of (entry ∷ rest)) → AreNewest truth entry × AreAbove (items_of truth ++ items_in entry) (items_of rest)
above_first truth rest entry above = grind (arith, items_of, append_nil)

-- so what comes behind an entry that is put in is above all with it
pub above_inserted : (entry : Entry) (old new rest : List Entry) → IsInserted entry old new → AreAbove (items_of old) (items_of (entry ∷ rest)) → AreAbove (items_of new) (items_of rest)
above_inserted entry old new rest put above = above_fewer (items_of new) (items_of old ++ items_in entry) (items_of rest)
    (λ x at. elim (told_cases entry old new put items_in x at) [
      | inl own ↦ Contains-append_right (items_of old) (items_in entry) x own
      | inr there ↦ Contains-append_left (items_of old) (items_in entry) x there
    ]) (above_first old rest entry above).1

-- ---- lists

-- none of fewer
pub none_fewer : {X : Type 0} (p : X → Bool) (count : ℕ) (xs : List X) → list_any p (drop count xs) ≡ false → list_any p (drop (count + 1) xs) ≡ false
none_fewer p count xs none =
    list_any_none p (drop (count + 1) xs)
    (all_by (λ x. p x ≡ false) (drop (count + 1) xs)
    (λ x at. none_pass p (drop count xs) none x (later_stands count (count + 1) xs x (omega arith) at)))

-- a test that nothing passes is passed by nothing further on
pub none_from : {X : Type 0} (p : X → Bool) (from later : ℕ) (xs : List X) → from ≤ later → filter p (drop from xs) ≡ [] → filter p (drop later xs) ≡ []
none_from {X} p from later xs behind none =
    none_kept p (drop later xs)
    (all_by (λ x. p x ≡ false) (drop later xs)
    (λ x at.
    false_from_ne_true (p x)
    (λ passes. none_stands x (rw none at (filter_stands p (drop from xs) x (later_stands from later xs x behind at) passes)))))

-- ---- the next entry

module _ (list : List Entry) (place : ℕ) (entry : Entry) (stands : slice_get list place ≡ Some entry) where
  within : place < length list
  within = slice_get_within list place entry stands

  -- the first entries with the next one, and the others without it
  taken_next : take (place + 1) list ≡ take place list ++ entry ∷ []
  taken_next = take_more list place entry within
      ∙ ap (λ (e : Entry). take place list ++ e ∷ []) (get_or_from_slice_get list place entry entry stands)

  pub dropped_next : drop place list ≡ entry ∷ drop (place + 1) list
  dropped_next = drop_more list place entry within
      ∙ ap (λ (e : Entry). e ∷ drop (place + 1) list) (get_or_from_slice_get list place entry entry stands)

  -- from a place behind it nothing is there, before and after
  pub nothing_ahead : (from : ℕ) → place < from → drop from (take (place + 1) list) ≡ drop from (take place list)
  nothing_ahead from ahead = grind (arith, taken_next, drop_none, length-take-le, within)

  -- and from one before it the entry comes to the end
  pub from_next : (from : ℕ) → from ≤ place → drop from (take (place + 1) list) ≡ drop from (take place list) ++ entry ∷ []
  from_next from behind = grind (arith, taken_next, drop-append-le, length-take-le, within)

  -- so it comes to the end of those that bear no mark, if it bears none
  pub unmarked_next : (marks : List Mark) (from : ℕ) → from ≤ place → unmarked_from marks from (take (place + 1) list) ≡ unmarked_from marks from (take place list) ++ unless_marked (is_marked marks place) entry
  unmarked_next marks from behind =
      grind (arith, unmarked_from, taken_next, unmarked_from_last, unless_marked, is_marked, length-take-le, within)

  -- and was the first of what was not applied
  pub rest_next : (marks : List Mark) (from : ℕ) → from ≤ place → unmarked_from marks (max from place) list ≡ unless_marked (is_marked marks place) entry ++ unmarked_from marks (max from (place + 1)) list
  rest_next marks from behind = grind (arith, unmarked_from, unmarked, dropped_next, is_marked, unless_marked)

-- ---- one more entry at the end of those that count

module _ (range : Range) (list : List Entry) (entry : Entry) where
  -- it counts, or changes nothing
  pub counting_more : counts range entry ≡ true → IsInserted entry (counting range list) (counting range (list ++ entry ∷ []))
  counting_more = inserted_kept entry list (list ++ entry ∷ []) (inserted_last entry list) (counts range)

  pub counting_beside : counts range entry ≡ false → counting range (list ++ entry ∷ []) ≡ counting range list
  counting_beside outside = grind (arith, filter-append, counts, counting, filter_left_out, append_nil)

  -- the items of side segments come behind it
  module _ (side : ℕ → List Entry) (names : named_by range entry ≡ []) where
    same_names : named range (list ++ entry ∷ []) ≡ named range list
    same_names = named_same range entry list false names

    pub material_more : counts range entry ≡ true → IsInserted entry (material_of range side list) (material_of range side (list ++ entry ∷ []))
    material_more inside = rw same_names
        (inserted_before entry (counting range list) (counting range (list ++ entry ∷ [])) (counting_more inside)
        (counting range (flat_map side (named range list))))

    pub material_beside : counts range entry ≡ false → material_of range side (list ++ entry ∷ []) ≡ material_of range side list
    material_beside outside = λ i. counting_beside outside i ++ counting range (flat_map side (same_names i))
