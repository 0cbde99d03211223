-- A half of a row has of all that the whole has what is of its range: what counts for it, what that records, what goes on behind it, and so
-- what the invariant says of the whole.
use Rattle.std.proofs.Common.{◌≡◌, ℕ, ◌≤◌, Bool, true, false, arith, refl, sym, suc, max, cond, List, [], ◌∷◌, ◌++◌, filter, fold, ap, ◌∙◌}
use Rattle.std.proofs.Common.{drop, nat_lt, slice_index_or, ◌-◌, All, flat_map, ◌<◌, ⊎_elim, append-nil, Option, ◌≢◌, AllPairs, ◌⊎◌, subst}
use Rattle.std.proofs.Common.{Contains}
use Rattle.rk_inv_base.proofs.Words.{nat_tests, has, meets, Range, has_all, cond_both, false≢true, All-append, All-drop, All-head, All-map}
use Rattle.rk_inv_base.proofs.Words.{All-nil, All-tail, All-take, All-weaker, filter-append, hash_of, Held, Member, Entry}
use Rattle.rk_inv_base.proofs.Words.{FIRST_SIDE_SEGMENT, unmarked_from, as_entries, counting, counts, material_of, named, named_by}
use Rattle.rk_inv_base.proofs.Words.{side_entries, with_number, Written, applied_entries, member_rest, member_truth, Mark, cases_Bool}
use Rattle.rk_inv_base.proofs.Words.{cond-false, cond-true, All-filter, bytes_eq-Decides, Map, is_in, is_of_parts, is_of, newest}
use Rattle.rk_inv_base.proofs.Words.{none_found, IsPlain, items_of, of_key, floor_by, floor_of, has_key, AreAboveMap, IsNext, AreAbove}
use Rattle.rk_inv_base.proofs.Words.{IsTableOf, false_from_ne_true, All-contains, Ended, Placed, is_at_parts, IsLegal, is_at, live_after}
use Rattle.rk_inv_base.proofs.Words.{map_after, Base, base_map, item_end, outcome_of, refusal_end, told, LastCall, TellAll, IsLastAsked}
use Rattle.rk_inv_base.proofs.Words.{IsRest, IsStaged, call_end, call_ends, record_of_last, records_of, IsTruth, Call, Contains-append_left}
use Rattle.rk_inv_base.proofs.Words.{Contains-append_right, filter_passes, lineage_of, Phase, Owned, Row, told_by, lineage_rest}
use Rattle.rk_inv_base.proofs.Words.{lineage_truth, IsKnown, IsOfWholeRows, View, truths, rests, SoundView}
use Rattle.rk_inv_base.proofs.views.Among.{unmarked_all}
use Rattle.rk_inv_rows.proofs.Words.{meets_either, IsHalf, IsOfWhole, live as live_items, record_of as live_of, floor_step, kept_stands}
use Rattle.rk_inv_rows.proofs.Words.{all_by, filter_from, member as member_at, row_in}
use Rattle.std.proofs.lemmas.List.Kept.{AllPairs-cons}
use Rattle.rk_overlay.specs.Newest.{Found, newest_from, with_newer}
use Rattle.rk_overlay.proofs.Folds.{newest_from-same}
use Rattle.rk_model.proofs.Histories.{legal_front}
use Rattle.rk_model.proofs.Keys.{legal_at, legal_from_keys, map_after_by_key}
use Rattle.rk_model.specs.History.{record_of, records_at}
use Rattle.rk_inv_rows.proofs.lineage.Among.{flat_among}
use Rattle.rk_entry.specs.declared.entry.Entry.TheVariants as entries

module _ (whole half : Range) (is : IsHalf whole half) where
  -- what is in a half is in the whole
  pub in_whole : (table hash : ℕ) → has half table hash ≡ true → has whole table hash ≡ true
  in_whole table hash inside = grind (arith, nat_tests)

  -- what meets a half meets the whole
  pub meets_whole : (a : Range) → meets a half ≡ true → meets a whole ≡ true
  meets_whole a met = grind (arith, nat_tests)

  -- what has all of the whole has all of a half
  pub all_of_half : (a : Range) → has_all a whole ≡ true → has_all a half ≡ true
  all_of_half a all = grind (arith, nat_tests)

-- ---- lists

-- what passes a test that implies another one
pub filter_finer : {X : Type 0} (p q : X → Bool) (xs : List X) → All (λ x. p x ≡ true → q x ≡ true) xs → filter p xs ≡ filter p (filter q xs)
filter_finer p q [] all = refl
filter_finer {X} p q (x ∷ xs) all = go (p x) (q x) refl refl (filter_finer p q xs (All-tail (λ x. p x ≡ true → q x ≡ true) x xs all))
  where
    here : p x ≡ true → q x ≡ true
    here = All-head (λ x. p x ≡ true → q x ≡ true) x xs all

    go : (a b : Bool) → p x ≡ a → q x ≡ b → filter p xs ≡ filter p (filter q xs) → cond a (x ∷ filter p xs) (filter p xs) ≡ filter p (cond b (x ∷ filter q xs) (filter q xs))
    go true true ea eb later =
        ap (λ (rest : List X). x ∷ rest) later
        ∙ ap (λ (c : Bool). cond c (x ∷ filter p (filter q xs)) (filter p (filter q xs))) (sym ea)
    go true false ea eb later = absurd (false≢true (sym eb ∙ here ea))
    go false true ea eb later = later ∙ ap (λ (c : Bool). cond c (x ∷ filter p (filter q xs)) (filter p (filter q xs))) (sym ea)
    go false false ea eb later = later

module _ (whole half : Range) (is : IsHalf whole half) where
  abbrev AreOfWhole : List Entry → Type 0
  AreOfWhole list = All (IsOfWhole whole) list

  -- ---- entries

  pub counts_whole : (entry : Entry) → IsOfWhole whole entry → counts half entry ≡ true → counts whole entry ≡ true
  counts_whole entry of inside = grind (arith, in_whole, hash_of, false≢true, meets_either, meets_whole, nat_tests)

  pub counting_half : (list : List Entry) → All (IsOfWhole whole) list → counting half list ≡ counting half (counting whole list)
  counting_half list all = grind (arith, filter_finer, counts, counts_whole)

  -- ---- side segments

  names_same : (entry : Entry) → IsOfWhole whole entry → named_by half entry ≡ named_by whole entry
  names_same entry of = grind (arith, meets, meets_whole, all_of_half, meets_either, nat_tests)

  all_names_same : (list : List Entry) → All (IsOfWhole whole) list → flat_map (named_by half) list ≡ flat_map (named_by whole) list
  all_names_same [] all = refl
  all_names_same (entry ∷ list) all =
      (λ i.
      names_same entry (All-head (IsOfWhole whole) entry list all) i
      ++ all_names_same list (All-tail (IsOfWhole whole) entry list all) i)

  pub named_same : (list : List Entry) → All (IsOfWhole whole) list → named half list ≡ named whole list
  named_same list all = ap (λ (numbers : List ℕ). fold with_number [] numbers) (all_names_same list all)

  sides_whole : (sides : List (List Held)) (number : ℕ) → AreOfWhole (side_entries sides number)
  sides_whole sides number =
      let items : List Held = slice_index_or sides (number - FIRST_SIDE_SEGMENT) [] in
      cond_both (nat_lt number FIRST_SIDE_SEGMENT) [] (as_entries items) AreOfWhole (λ e. All-nil (IsOfWhole whole))
      (λ e. All-map (IsOfWhole whole) entries.Held items (each items))
    where
      each : (items : List Held) → All (λ item. IsOfWhole whole (entries.Held item)) items
      each items = λ k d within. tt

  all_sides_whole : (sides : List (List Held)) (numbers : List ℕ) → AreOfWhole (flat_map (side_entries sides) numbers)
  all_sides_whole sides [] = All-nil _
  all_sides_whole sides (number ∷ numbers) =
      All-append (IsOfWhole whole) (side_entries sides number) (flat_map (side_entries sides) numbers) (sides_whole sides number) (all_sides_whole sides numbers)

  -- ---- what counts

  pub material_half : (sides : List (List Held)) (list : List Entry) → All (IsOfWhole whole) list → material_of half (side_entries sides) list ≡ counting half (material_of whole (side_entries sides) list)
  material_half sides list all =
      grind (arith, side_entries, named, counting, named_same, counting_half, all_sides_whole, filter-append, counts)

  free_whole : (marks : List Mark) (from : ℕ) (list : List Entry) → AreOfWhole list → AreOfWhole (unmarked_from marks from list)
  free_whole marks from list all = unmarked_all (IsOfWhole whole) marks from (drop from list) (All-drop (IsOfWhole whole) from list all)

  -- of a member, applied or not, and not applied
  module _ (written : ℕ → Written) (m : Member) (wholes : All (IsOfWhole whole) (written m.master).entries) where
    abbrev w : Written
    w = written m.master

    pub half_truth : member_truth written half m ≡ counting half (member_truth written whole m)
    half_truth =
        material_half w.sides (unmarked_from w.marks m.from (applied_entries w))
        (free_whole w.marks m.from (applied_entries w) (All-take (IsOfWhole whole) w.applied w.entries wholes))

    pub half_rest : member_rest written half m ≡ counting half (member_rest written whole m)
    half_rest =
        counting_half (unmarked_from w.marks (max m.from w.applied) w.entries) (free_whole w.marks (max m.from w.applied) w.entries wholes)

-- ---- items

-- the items of what counts for a range, of entries that count or not
pub items_kept : (range : Range) (list : List Entry) → items_of (counting range list) ≡ filter (is_in range) (items_of list)
items_kept range [] = refl
items_kept range (entries.Held held ∷ list) =
    grind (arith, cond_both, counts, counting, items_of, is_in, cond-true, cond-false, entries.Held, (items_kept range list))
items_kept range (entries.Refused refused ∷ list) =
    grind (arith, cond_both, counts, counting, items_of, is_in, entries.Refused, (items_kept range list))
items_kept range (entries.Carried carried ∷ list) =
    grind (arith, cond_both, counts, counting, items_of, is_in, entries.Carried, (items_kept range list))
items_kept range (entries.Joined joined ∷ list) =
    grind (arith, cond_both, counts, counting, items_of, is_in, entries.Joined, (items_kept range list))

-- an item of a key in a range is in the range
in_by_key : (range : Range) (table : ℕ) (key : List ℕ) (item : Held) → is_of table key item ≡ true → has_key range table key ≡ true → is_in range item ≡ true
in_by_key range table key item its inside = grind (arith, is_of_parts, has_key)

-- the newest item of a key in a range is the newest of those in the range
pub newest_kept : (range : Range) (table : ℕ) (key : List ℕ) (found : Found) (items : List Held) → has_key range table key ≡ true → newest_from found (filter (is_in range) items) table key ≡ newest_from found items table key
newest_kept range table key found [] inside = refl
newest_kept range table key found (item ∷ items) inside =
    grind (arith, in_by_key, newest_from-same, (newest_kept range table key (with_newer found item) items inside))

-- items of which two are equal if they are of one key and version
pub plain_kept : (p : Held → Bool) (items : List Held) → IsPlain items → IsPlain (filter p items)
plain_kept p items plain a b first second = plain a b (kept_stands p items a first).0 (kept_stands p items b second).0

-- items above those before them
pub above_kept : (p : Held → Bool) (before items : List Held) → AreAbove before items → AreAbove (filter p before) (filter p items)
above_kept p before [] above = tt
above_kept p before (item ∷ items) above =
    let later = above_kept p (before ++ item ∷ []) items above.1 in
    cond_both (p item) (item ∷ filter p items) (filter p items) (AreAbove (filter p before))
    (λ e. (
      All-filter p (λ (other : Held). is_of item.table item.key other ≡ true → other.version < item.version) before above.0,
      rw (← (filter-append p before (item ∷ []) ∙ ap (λ (last : List Held). filter p before ++ last) (cond-true (p item) (item ∷ []) [] e))) later,
    ))
    (λ e.
    rw (← (filter-append p before (item ∷ []) ∙ ap (λ (last : List Held). filter p before ++ last) (cond-false (p item) (item ∷ []) [] e) ∙ append-nil (filter p before)))
    later)

-- ---- floors

floor_more : (a b : ℕ) (entry : Entry) → a ≤ b → floor_by a entry ≤ floor_by b entry
floor_more a b entry less = grind arith

floor_kept_from : (p : Entry → Bool) (a b : ℕ) (list : List Entry) → a ≤ b → fold floor_by a (filter p list) ≤ fold floor_by b list
floor_kept_from p a b [] less = less
floor_kept_from p a b (entry ∷ list) less =
    let step = floor_step b entry in
    cond_both (p entry) (entry ∷ filter p list) (filter p list) (λ kept. fold floor_by a kept ≤ fold floor_by (floor_by b entry) list)
    (λ e. floor_kept_from p (floor_by a entry) (floor_by b entry) list (floor_more a b entry less))
    (λ e. floor_kept_from p a (floor_by b entry) list (omega (arith, less, step)))

-- a number that is next after some entries is next after fewer
pub next_kept : (p : Entry → Bool) (list : List Entry) (number : ℕ) → IsNext list number → IsNext (filter p list) number
next_kept p list number next =
    let few = floor_kept_from p 1 1 list (omega arith) in omega (arith, few, next)

-- ---- a half

module _ (whole half : Range) (is : IsHalf whole half) where
  pub of_key_half : (table : ℕ) (key : List ℕ) (list : List Entry) → has_key half table key ≡ true → All (λ entry. counts whole entry ≡ true) list → of_key table key (counting half list) ≡ of_key table key list
  of_key_half table key list inside all =
      grind (arith, filter_finer, bytes_eq-Decides)

  -- so floors of its keys are as they were
  pub above_half : (map : Map) (list : List Entry) → All (λ entry. counts whole entry ≡ true) list → AreAboveMap whole map list → AreAboveMap half map (counting half list)
  above_half map list all above table key inside = grind (arith, floor_of, of_key_half, in_whole, hash_of)

  -- and the records that its items leave
  pub live_half : (list : List Entry) (table : ℕ) (key : List ℕ) → has_key half table key ≡ true → live_items (items_of (counting half list)) table key ≡ live_items (items_of list) table key
  live_half list table key inside = search (live_items, items_kept, live_of, newest_kept, none_found, items_of)

  -- records that have the newest items of the whole have those of the half
  pub table_half : (list : List Entry) (records : List Held) → IsTableOf whole list records → IsTableOf half (counting half list) records
  table_half list records all item inside =
      rw (ap (λ (items : List Held). newest items item.table item.key) (items_kept half list)
      ∙ newest_kept half item.table item.key none_found (items_of list) inside)
      (all item (in_whole whole half is item.table (hash_of item.key) inside))

-- ---- records by key

-- the record that an end will make is of its key alone
module _ (asked : ℕ → Option LastCall) (journal : List Placed) (range : Range) (table : ℕ) (key : List ℕ) where
  -- the records of a key that ends will make
  abbrev MadeOf : List Ended → List Placed
  MadeOf ends = records_at table key (records_of asked ends)

  -- an entry that counts if its key is in the range, and records the end of the last call of a client alone
  record IsTold (entry : Entry) : Type 0 where
    end : Ended
    seq : ℕ
    its_table : ℕ
    its_key : List ℕ
    last : IsLastAsked asked journal end.client seq its_table its_key
    counted : counts range entry ≡ has_key range its_table its_key
    ends : call_end entry ≡ end ∷ []

  -- what is staged records no end or one
  told_cases : (base : Base) (entry : Entry) → IsStaged base asked journal entry → (call_end entry ≡ []) ⊎ IsTold entry
  told_cases base entry staged = grind (arith, item_end, refusal_end)

  one_apart : (entry : Entry) (told : IsTold entry) → (has_key range told.its_table told.its_key ≡ has_key range table key → ⊥) → records_at table key (record_of_last told.end (asked told.end.client)) ≡ []
  one_apart entry told apart =
      let is = told.last in
      let placed : Placed = record { call = is.last.call; outcome = outcome_of told.end.end; stamp = 0; accepted = false } in
      let other : is_at table key placed ≡ false =
      false_from_ne_true (is_at table key placed)
      (λ here.
      let parts = is_at_parts table key placed here in
      apart
      (ap (λ (n : ℕ). has_key range n told.its_key) (sym is.table_is ∙ parts.0) ∙ ap (has_key range table) (sym is.key_is ∙ parts.1))) in
      ap (λ (last : Option LastCall). records_at table key (record_of_last told.end last)) is.asked_is
      ∙ cond-false (is_at table key placed) (placed ∷ []) [] other

  -- what is made by an end and others
  made_cons : (end : Ended) (ends : List Ended) → MadeOf (end ∷ ends) ≡ records_at table key (record_of_last end (asked end.client)) ++ MadeOf ends
  made_cons end ends = filter-append (is_at table key) (record_of_last end (asked end.client)) (records_of asked ends)

  -- of a key in the range what counts there makes all records
  same_made : (base : Base) → has_key range table key ≡ true → (list : List Entry) → All (IsStaged base asked journal) list → MadeOf (call_ends (counting range list)) ≡ MadeOf (call_ends list)
  same_made base inside [] staged = refl
  same_made base inside (entry ∷ list) staged =
      let few : List Entry = counting range list in
      let later : MadeOf (call_ends few) ≡ MadeOf (call_ends list) =
      same_made base inside list (All-tail (IsStaged base asked journal) entry list staged) in
      cond_both (counts range entry) (entry ∷ few) few (λ few. MadeOf (call_ends few) ≡ MadeOf (call_ends (entry ∷ list)))
      (λ e.
      ⊎_elim (λ (none : call_end entry ≡ []). rw none later)
      (λ (told : IsTold entry).
      rw told.ends
      (made_cons told.end (call_ends few)
      ∙ ap (λ (more : List Placed). records_at table key (record_of_last told.end (asked told.end.client)) ++ more) later
      ∙ sym (made_cons told.end (call_ends list))))
      (told_cases base entry (All-head (IsStaged base asked journal) entry list staged)))
      (λ e.
      ⊎_elim (λ (none : call_end entry ≡ []). rw none later)
      (λ (told : IsTold entry).
      rw told.ends
      (later
      ∙ sym (made_cons told.end (call_ends list)
      ∙ ap (λ (front : List Placed). front ++ MadeOf (call_ends list))
      (one_apart entry told (λ same. false≢true (sym e ∙ told.counted ∙ same ∙ inside))))))
      (told_cases base entry (All-head (IsStaged base asked journal) entry list staged)))

  -- and of another key none
  none_made : (base : Base) → has_key range table key ≡ false → (list : List Entry) → All (IsStaged base asked journal) list → MadeOf (call_ends (counting range list)) ≡ []
  none_made base outside [] staged = refl
  none_made base outside (entry ∷ list) staged =
      let few : List Entry = counting range list in
      let later : MadeOf (call_ends few) ≡ [] = none_made base outside list (All-tail (IsStaged base asked journal) entry list staged) in
      cond_both (counts range entry) (entry ∷ few) few (λ few. MadeOf (call_ends few) ≡ [])
      (λ e.
      ⊎_elim (λ (none : call_end entry ≡ []). rw none later)
      (λ (told : IsTold entry).
      rw told.ends
      (made_cons told.end (call_ends few)
      ∙ (λ i. one_apart entry told (λ same. false≢true (sym outside ∙ sym same ∙ sym told.counted ∙ e)) i ++ later i)))
      (told_cases base entry (All-head (IsStaged base asked journal) entry list staged)))
      (λ e. later)

-- ---- ends

-- what holds of the ends of calls holds of those that count
ends_kept : (P : Ended → Type 0) (range : Range) (list : List Entry) → All P (call_ends list) → All P (call_ends (counting range list))
ends_kept P range list all =
    all_by P (call_ends (counting range list))
    (λ end at.
    All-contains P (call_ends list) end all
    (flat_among call_end (counting range list) list (λ entry. filter_from (counts range) list entry) end at))

-- of pairs in order the first is so with each other, and the others are so
first_pairs : {X : Type 0} (R : X → X → Type 0) (x : X) (xs : List X) → AllPairs R (x ∷ xs) → All (R x) xs
first_pairs R x xs pairs = λ k d within. pairs 0 (suc k) d (omega arith) (omega (arith, within))

later_pairs : {X : Type 0} (R : X → X → Type 0) (x : X) (xs : List X) → AllPairs R (x ∷ xs) → AllPairs R xs
later_pairs R x xs pairs = λ i j d less within. pairs (suc i) (suc j) d (omega (arith, less)) (omega (arith, within))

-- an entry has the end of one call at most
end_cases : (entry : Entry) → (call_end entry ≡ []) ⊎ ((end : Ended) × (call_end entry ≡ end ∷ []))
end_cases entry = grind (arith, item_end, refusal_end)

pairs_kept : (R : Ended → Ended → Type 0) (range : Range) (list : List Entry) → AllPairs R (call_ends list) → AllPairs R (call_ends (counting range list))
pairs_kept R range [] pairs = pairs
pairs_kept R range (entry ∷ list) pairs =
    let few : List Entry = counting range list in
    ⊎_elim
    (λ (none : call_end entry ≡ []).
    let later : AllPairs R (call_ends few) = pairs_kept R range list (rw none at pairs) in
    cond_both (counts range entry) (entry ∷ few) few (λ few. AllPairs R (call_ends few)) (λ e. rw none later) (λ e. later))
    (λ (one : (end : Ended) × (call_end entry ≡ end ∷ [])).
    let all : AllPairs R (one.0 ∷ call_ends list) = rw one.1 at pairs in
    let later : AllPairs R (call_ends few) = pairs_kept R range list (later_pairs R one.0 (call_ends list) all) in
    cond_both (counts range entry) (entry ∷ few) few (λ few. AllPairs R (call_ends few))
    (λ e. rw one.1 (AllPairs-cons R one.0 (call_ends few) (ends_kept (R one.0) range list (first_pairs R one.0 (call_ends list) all)) later))
    (λ e. later))
    (end_cases entry)

-- ---- a half

module _ (whole half : Range) (is : IsHalf whole half) where
  -- the truth of the whole has that of the half
  pub truth_half : (base : Base) (truth : List Entry) (journal : List Placed) → IsTruth base whole truth journal → IsTruth base half (counting half truth) journal
  truth_half base truth journal was = record {
    plain = rw (items_kept half truth) (plain_kept (is_in half) (items_of truth) was.plain);
    live = λ table key inside.
        live_half whole half is truth table key inside ∙ was.live table key (in_whole whole half is table (hash_of key) inside);
  }

  -- what records each mutation of the whole records each of the half
  pub tells_half : (journal : List Placed) (list : List Entry) → All (λ entry. counts whole entry ≡ true) list → TellAll whole journal list → TellAll half journal (counting half list)
  tells_half journal list all tells k d within inside mutation =
      let call : Call = (slice_index_or journal k d).call in
      rw (of_key_half whole half is call.table call.key list inside all)
      (tells k d within (in_whole whole half is call.table (hash_of call.key) inside) mutation)

  module _ (base : Base) (truth rest : List Entry) (journal : List Placed) (asked : ℕ → Option LastCall) (was : IsRest base whole truth rest journal asked) where
    -- the records that all and those of the half will make, behind the journal
    abbrev all_made : List Placed
    all_made = journal ++ records_of asked (call_ends rest)

    abbrev half_made : List Placed
    half_made = journal ++ records_of asked (call_ends (counting half rest))

    made_at : (table : ℕ) (key : List ℕ) (list : List Entry) → records_at table key (journal ++ records_of asked (call_ends list)) ≡ records_at table key journal ++ records_at table key (records_of asked (call_ends list))
    made_at table key list = filter-append (is_at table key) journal (records_of asked (call_ends list))

    same_at : (table : ℕ) (key : List ℕ) → has_key half table key ≡ true → records_at table key half_made ≡ records_at table key all_made
    same_at table key inside =
        made_at table key (counting half rest)
        ∙ ap (λ (more : List Placed). records_at table key journal ++ more) (same_made asked journal half table key base inside rest was.staged)
        ∙ sym (made_at table key rest)

    legal_at_key : (table : ℕ) (key : List ℕ) → IsLegal (base_map base) (records_at table key half_made)
    legal_at_key table key =
        ⊎_elim
        (λ (inside : has_key half table key ≡ true).
        rw (same_at table key inside) (legal_at (base_map base) table key all_made was.legal))
        (λ (outside : has_key half table key ≡ false).
        rw (made_at table key (counting half rest)
        ∙ ap (λ (more : List Placed). records_at table key journal ++ more) (none_made asked journal half table key base outside rest was.staged)
        ∙ append-nil (records_at table key journal))
        (legal_at (base_map base) table key journal (legal_front (base_map base) journal (records_of asked (call_ends rest)) was.legal)))
        (cases_Bool (has_key half table key))

    live_at : (table : ℕ) (key : List ℕ) → has_key half table key ≡ true → live_after (base_map base) half_made table key ≡ live_after (base_map base) all_made table key
    live_at table key inside =
        ap record_of
        (map_after_by_key (base_map base) half_made table key
        ∙ ap (λ (history : List Placed). map_after (base_map base) history table key) (same_at table key inside)
        ∙ sym (map_after_by_key (base_map base) all_made table key))

    -- so the rest of the whole has that of the half
    pub rest_half : IsRest base half (counting half truth) (counting half rest) journal asked
    rest_half = record {
      legal = legal_from_keys (base_map base) half_made legal_at_key;
      live = λ table key inside.
          ap (λ (list : List Entry). live_items (items_of list) table key) (sym (filter-append (counts half) truth rest))
          ∙ live_half whole half is (truth ++ rest) table key inside
          ∙ was.live table key (in_whole whole half is table (hash_of key) inside)
          ∙ sym (live_at table key inside);
      staged = All-filter (counts half) (IsStaged base asked journal) rest was.staged;
      one = pairs_kept (λ a b. a.client ≢ b.client) half rest was.one;
    }

-- what holds of all ends that entries record holds of those that the counting ones record
told_kept : (P : Ended → Type 0) (range : Range) (list : List Entry) → All P (told list) → All P (told (counting range list))
told_kept P range [] all = all
told_kept P range (entry ∷ list) all =
    let more : List Ended = told list in
    let later = told_kept P range list (all_by P more (λ end at. All-contains P (told_by entry ++ more) end all (Contains-append_right (told_by entry) more end at))) in
    let first : All P (told_by entry) =
    all_by P (told_by entry) (λ end at. All-contains P (told_by entry ++ more) end all (Contains-append_left (told_by entry) more end at)) in
    cond_both (counts range entry) (entry ∷ counting range list) (counting range list) (λ few. All P (told few))
    (λ e. All-append P (told_by entry) (told (counting range list)) first later) (λ e. later)

-- what counts for a range, of a member that is applied, and not
truth_counts : (written : ℕ → Written) (range : Range) (m : Member) → All (λ entry. counts range entry ≡ true) (member_truth written range m)
truth_counts written range m =
    let w : Written = written m.master in
    let own : List Entry = unmarked_from w.marks m.from (applied_entries w) in
    let more : List Entry = flat_map (side_entries w.sides) (named range own) in
    All-append (λ entry. counts range entry ≡ true) (counting range own) (counting range more) (filter_passes (counts range) own)
    (filter_passes (counts range) more)

module _ (v : View) (sound : SoundView v) (row half : Row) (has : Contains v.rows row) (owner from : ℕ) (phase_is : row.phase ≡ Owned owner from) (same_phase : half.phase ≡ Owned owner from) (is : IsHalf row.range half.range) where
  abbrev own : Member
  own = member_at owner from

  -- each Carried and each Joined that meets the row has all of it
  of_whole : (entry : Entry) → IsOfWholeRows v.rows entry → IsOfWhole row.range entry
  of_whole entry wholes = grind (arith, meets, has_all, has)

  pub wholes : (q : ℕ) → All (IsOfWhole row.range) (v.written q).entries
  wholes q = All-weaker _ _ of_whole (v.written q).entries (sound.cover.wholes q)

  -- the truth and the rest of a row of this phase
  truth_is : (x : Row) → x.phase ≡ Owned owner from → truths v x ≡ member_truth v.written x.range own
  truth_is x phase =
      ap (λ (p : Phase). lineage_truth v.base v.written x.range (lineage_of p)) phase ∙ append-nil (member_truth v.written x.range own)

  rest_is : (x : Row) → x.phase ≡ Owned owner from → rests v x ≡ member_rest v.written x.range own
  rest_is x phase = ap (λ (p : Phase). lineage_rest v.written x.range (lineage_of p)) phase

  pub truths_half : truths v half ≡ counting half.range (truths v row)
  truths_half =
      truth_is half same_phase ∙ half_truth row.range half.range is v.written own (wholes owner)
      ∙ ap (counting half.range) (sym (truth_is row phase_is))

  pub rests_half : rests v half ≡ counting half.range (rests v row)
  rests_half =
      rest_is half same_phase ∙ half_rest row.range half.range is v.written own (wholes owner)
      ∙ ap (counting half.range) (sym (rest_is row phase_is))

  counted : All (λ entry. counts row.range entry ≡ true) (truths v row)
  counted = rw (truth_is row phase_is) (truth_counts v.written row.range own)

  -- so the parts that are said of a row's truth and rest are said of the half
  pub truth_of_half : IsTruth v.base half.range (truths v half) v.journal
  truth_of_half =
      rw truths_half (truth_half row.range half.range is v.base (truths v row) v.journal
      (row_in v sound row has).truth)

  pub order_of_half : AreAbove (items_of (truths v half)) (items_of (rests v half))
  order_of_half =
      subst (λ (p : List Held × List Held). AreAbove p.0 p.1)
      (λ i.
      (sym (ap items_of truths_half ∙ items_kept half.range (truths v row)) i, sym (ap items_of rests_half ∙ items_kept half.range (rests v row)) i))
      (above_kept (is_in half.range) (items_of (truths v row)) (items_of (rests v row))
      (row_in v sound row has).order)

  pub reached_of_half : TellAll half.range v.journal (truths v half)
  reached_of_half =
      rw truths_half (tells_half row.range half.range is v.journal (truths v row) counted
      (row_in v sound row has).calls.reached)

  pub recorded_of_half : All (IsKnown v.base v.journal) (told (truths v half))
  recorded_of_half =
      rw truths_half (told_kept (IsKnown v.base v.journal) half.range (truths v row)
      (row_in v sound row has).calls.recorded)

  pub low_of_half : AreAboveMap half.range (map_after (base_map v.base) v.journal) (truths v half)
  low_of_half =
      rw truths_half (above_half row.range half.range is (map_after (base_map v.base) v.journal) (truths v row) counted
      (row_in v sound row has).counters.low)

  -- a number that is next for the row is next for the half
  pub next_of_half : (number : ℕ) → IsNext (truths v row ++ rests v row) number → IsNext (truths v half ++ rests v half) number
  next_of_half number next =
      rw (← (filter-append (counts half.range) (truths v row) (rests v row) ∙ (λ i. sym truths_half i ++ sym rests_half i)))
      (next_kept (counts half.range) (truths v row ++ rests v row) number next)

  pub rest_of_half : IsRest v.base half.range (truths v half) (rests v half) v.journal v.asked
  rest_of_half =
      subst (λ (p : List Entry × List Entry). IsRest v.base half.range p.0 p.1 v.journal v.asked) (λ i. (sym truths_half i, sym rests_half i))
      (rest_half row.range half.range is v.base (truths v row) (rests v row) v.journal v.asked
      (row_in v sound row has).rest.goes_on)

  -- records that have the newest items of the row have those of the half
  pub table_of_half : (records : List Held) → IsTableOf row.range (member_truth v.written row.range own) records → IsTableOf half.range (member_truth v.written half.range own) records
  table_of_half records all =
      rw (half_truth row.range half.range is v.written own (wholes owner))
      (table_half row.range half.range is (member_truth v.written row.range own) records all)
