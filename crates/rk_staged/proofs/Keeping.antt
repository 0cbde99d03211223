-- What is kept of the staged items, after an item was staged at the end, and after the first one was applied.
use Rattle.rk_staged.proofs.Words.{◌≡◌, ℕ, ◌+◌, ◌-◌, ◌≤◌, ◌<◌, Bool, true, false, cond, eqb, ltb, ◌&&◌, List, [], ◌∷◌, ◌++◌, Option, Some}
use Rattle.rk_staged.proofs.Words.{None, refl, sym, ap, ◌∙◌, subst, ⊎_elim, arith, drop, slice_get, suc, zero, nat_cmp, is_eq}
use Rattle.rk_staged.proofs.Words.{unsigned_tied, cond-true, cond-false, false≢true, Held, append-nil, Entry, items_of, newest}
use Rattle.std.specs.Prelude.{bytes_eq}
use Rattle.std.specs.BTreeMap.{BTreeMap, get as found_in, Updates}
use Rattle.std.proofs.lemmas.Map.Text.{is_eq-slice_cmp}
use Rattle.std.proofs.lemmas.Bool.{cases_Bool, cases_lt}
use Rattle.std.proofs.lemmas.Grind.{flat_map-append}
use Rattle.rk_entry.specs.declared.entry.Entry.TheVariants as entries
use Rattle.rk_world.specs.Ends.{items_in}
use Rattle.rk_overlay.specs.Newest.{is_of, Found, none_found, newer_of, with_newer, newest_from, HasNone}
use Rattle.rk_overlay.proofs.Folds.{newest_from-append, newest_from-same, with_newer_here, with_newer_other, newer_item, newer_old, newer_cases, none_in}
use Rattle.rk_overlay.proofs.Members.{first_stands, behind_stands}
use Rattle.rk_overlay.proofs.Names.{is_of_parts, is_of_from}
use Rattle.rk_staged.specs.declared.staged_entries.Kept.{Kept}
use Rattle.rk_staged.specs.Kept.{Name, name_cmp, many_of, kept_of, kept, kept_with, IsKept, newer_in}

-- two names are equal if their tables are, and their keys
pub same_name : (a b : Name) → is_eq (name_cmp a b) ≡ (eqb a.0 b.0 && bytes_eq a.1 b.1)
same_name a b = grind (arith, nat_cmp, is_eq, unsigned_tied, eqb, is_eq-slice_cmp)

-- 1 for an item of the record, and 0 for each other
abbrev one : Bool → ℕ
one b = cond b 1 0

-- how many there are with one more at the end
many_more : (items : List Held) (item : Held) (table : ℕ) (key : List ℕ) → many_of (items ++ item ∷ []) table key ≡ many_of items table key + one (is_of table key item)
many_more [] item table key = omega arith
many_more (first ∷ items) item table key = omega (arith, many_more items item table key)

-- there are none if none is found
many_none : (items : List Held) (table : ℕ) (key : List ℕ) → HasNone items table key → many_of items table key ≡ 0
many_none [] table key none = refl
many_none (first ∷ items) table key none =
    let apart : is_of table key first ≡ false = none first (first_stands first items) in
    let rest = many_none items table key (λ other at. none other (behind_stands first items other at)) in
    let zero_here : one (is_of table key first) ≡ 0 = cond-false (is_of table key first) 1 0 apart in
    omega (arith, rest, zero_here)

-- what is kept of a record, with one more item of another at the end
kept_other : (items : List Held) (item : Held) (table : ℕ) (key : List ℕ) → is_of table key item ≡ false → kept (items ++ item ∷ []) table key ≡ kept items table key
kept_other items item table key apart = grind (arith, with_newer_other, newest, cond-false, many_more, newest_from-append)

-- and with one more of its own
kept_here : (items : List Held) (item : Held) (table : ℕ) (key : List ℕ) → is_of table key item ≡ true → kept (items ++ item ∷ []) table key ≡ Some (kept_with (kept items table key) item)
kept_here items item table key here =
    grind (arith, with_newer_here, newest, cond-true, many_more, many_none, none_in, ltb, newest_from-append)

-- a tree in which an item was taken in at the end
pub kept_added : (old new : BTreeMap Name Kept) (item : Held) (items : List Held) (named : List ℕ) (kept_now : Kept)
    → named ≡ item.key → Updates name_cmp old new (item.table, named) (Some kept_now) → kept_now ≡ kept_with (found_in name_cmp old (item.table, named)) item
    → IsKept old items → IsKept new (items ++ item ∷ [])
kept_added old new item items named kept_now same updates_named is_named was table key =
    let updates : Updates name_cmp old new (item.table, item.key) (Some kept_now) = subst (λ (k : List ℕ). Updates name_cmp old new (item.table, k) (Some kept_now)) same updates_named in
    let is : kept_now ≡ kept_with (found_in name_cmp old (item.table, item.key)) item = subst (λ (k : List ℕ). kept_now ≡ kept_with (found_in name_cmp old (item.table, k)) item) same is_named in
    updates.0 (table, key)
    ∙ ap (λ (b : Bool). cond b (Some kept_now) (found_in name_cmp old (table, key))) (same_name (item.table, item.key) (table, key))
    ∙ go (is_of table key item) refl is
  where
    go : (b : Bool) → is_of table key item ≡ b → kept_now ≡ kept_with (found_in name_cmp old (item.table, item.key)) item → cond b (Some kept_now) (found_in name_cmp old (table, key)) ≡ kept (items ++ item ∷ []) table key
    go true here is =
        let its = is_of_parts table key item here in
        ap Some is ∙ ap (λ (o : Option Kept). Some (kept_with o item)) (was item.table item.key ∙ (λ i. kept items (its.0 i) (its.1 i)))
        ∙ sym (kept_here items item table key here)
    go false apart is = was table key ∙ sym (kept_other items item table key apart)

-- ---- the first item is applied

-- what is newer than what was found before a list is found there without it, too
ahead : (f g : Found) (items : List Held) (table : ℕ) (key : List ℕ) (old item : Held)
    → f table key ≡ Some old → ((y : Held) → g table key ≡ Some y → y.version ≤ old.version)
    → newest_from f items table key ≡ Some item → old.version < item.version → newest_from g items table key ≡ Some item
ahead f g [] table key old item was below is newer = grind (arith, old.version, item.version)
ahead f g (first ∷ items) table key old item was below is newer =
    ⊎_elim
    (λ (here : is_of table key first ≡ true).
    ⊎_elim
    (λ (later : old.version < first.version).
    let in_f : with_newer f first table key ≡ Some first = with_newer_here f first table key here ∙ ap Some (newer_item (f table key) first (λ y there. let same : old ≡ y = cc (was, there) in subst (λ (x : Held). x.version < first.version) same later)) in
    let in_g : with_newer g first table key ≡ Some first = with_newer_here g first table key here ∙ ap Some (newer_item (g table key) first (λ y there. omega (arith, below y there, later))) in
    newest_from-same (with_newer g first) (with_newer f first) items table key (in_g ∙ sym in_f) ∙ is)
    (λ (earlier : first.version ≤ old.version).
    let in_f : with_newer f first table key ≡ Some old = with_newer_here f first table key here ∙ ap (λ (o : Option Held). Some (newer_of o first)) was ∙ ap Some (newer_old old first earlier) in
    let in_g : with_newer g first table key ≡ Some (newer_of (g table key) first) = with_newer_here g first table key here in
    ahead (with_newer f first) (with_newer g first) items table key old item in_f
    (λ y there.
    let same : newer_of (g table key) first ≡ y = cc (in_g, there) in
    ⊎_elim
    (λ (its : newer_of (g table key) first ≡ first). subst (λ (x : Held). x.version ≤ old.version) (sym its ∙ same) earlier)
    (λ (before : g table key ≡ Some (newer_of (g table key) first)). subst (λ (x : Held). x.version ≤ old.version) same (below (newer_of (g table key) first) before))
    (newer_cases (g table key) first))
    is newer)
    (cases_lt old.version first.version))
    (λ (apart : is_of table key first ≡ false).
    ahead (with_newer f first) (with_newer g first) items table key old item (with_newer_other f first table key apart ∙ was)
    (λ y there. below y (sym (with_newer_other g first table key apart) ∙ there)) is newer)
    (cases_Bool (is_of table key first))

-- what is kept of a record, with the first item of another gone
kept_apart : (item : Held) (items : List Held) (table : ℕ) (key : List ℕ) → is_of table key item ≡ false → kept (item ∷ items) table key ≡ kept items table key
kept_apart item items table key apart = grind (arith, newest, newest_from-same, with_newer_other, cond-false)

-- none is found if there are none
none_many : (found : Found) (items : List Held) (table : ℕ) (key : List ℕ) → many_of items table key ≡ 0 → newest_from found items table key ≡ found table key
none_many found [] table key none = refl
none_many found (first ∷ items) table key none =
    ⊎_elim
    (λ (here : is_of table key first ≡ true).
    let one_here : one (is_of table key first) ≡ 1 = cond-true (is_of table key first) 1 0 here in
    absurd (omega (arith, none, one_here)))
    (λ (apart : is_of table key first ≡ false).
    none_many (with_newer found first) items table key (omega (arith, none)) ∙ with_newer_other found first table key apart)
    (cases_Bool (is_of table key first))

-- nothing is left of one
pub kept_none : (item : Held) (items : List Held) (table : ℕ) (key : List ℕ) (old : Kept) → is_of table key item ≡ true → Some old ≡ kept (item ∷ items) table key
    → old.count ≤ 1 → None ≡ kept items table key
kept_none item items table key old here is few = grind (arith, none_many, newest, cond-true)

-- a newest item that is newer than the first is left
pub kept_newer : (item : Held) (items : List Held) (table : ℕ) (key : List ℕ) (old : Kept) → is_of table key item ≡ true → Some old ≡ kept (item ∷ items) table key
    → item.version < old.version → Some (record { version = old.version; is_live = old.is_live; count = old.count - 1 }) ≡ kept items table key
kept_newer item items table key old here is newer = grind (arith, newest, with_newer_here, ahead, cond-true)

-- a tree of which the first item was taken out
pub kept_subtracted : (old new : BTreeMap Name Kept) (name : Name) (item : Held) (items : List Held) (left : Option Kept)
    → item.table ≡ name.0 → item.key ≡ name.1 → Updates name_cmp old new name left → left ≡ kept items name.0 name.1
    → IsKept old (item ∷ items) → IsKept new items
kept_subtracted old new name item items left its_table its_key updates left_is was table key =
    updates.0 (table, key)
    ∙ ap (λ (b : Bool). cond b left (found_in name_cmp old (table, key))) (same_name name (table, key))
    ∙ go (eqb name.0 table && bytes_eq name.1 key) refl
  where
    test_is : (eqb name.0 table && bytes_eq name.1 key) ≡ is_of table key item
    test_is = λ i. eqb (sym its_table i) table && bytes_eq (sym its_key i) key

    go : (b : Bool) → (eqb name.0 table && bytes_eq name.1 key) ≡ b → cond b left (found_in name_cmp old (table, key)) ≡ kept items table key
    go true same =
        let its = is_of_parts table key item (sym test_is ∙ same) in
        left_is ∙ (λ i. kept items ((sym its_table ∙ its.0) i) ((sym its_key ∙ its.1) i))
    go false apart = was table key ∙ kept_apart item items table key (sym test_is ∙ apart)

-- an item that has the table and the key is of the record
pub is_named : (table : ℕ) (key : List ℕ) (item : Held) → item.table ≡ table → item.key ≡ key → is_of table key item ≡ true
is_named = is_of_from

-- ---- the newest among entries

-- what is found among entries, and one more
pub newest_pushed : (entries : List Entry) (entry : Entry) (found : Option Held) (table : ℕ) (key : List ℕ)
    → found ≡ newest (items_of entries) table key → newer_in found entry table key ≡ newest (items_of (entries ++ entry ∷ [])) table key
newest_pushed entries entry found table key was = grind (arith, items_of, newest, append-nil, flat_map-append, newest_from-append)

-- something is kept of a record that has an item
pub kept_some : (item : Held) (items : List Held) (table : ℕ) (key : List ℕ) → is_of table key item ≡ true → None ≡ kept (item ∷ items) table key → ⊥
kept_some item items table key here none = go (newest (item ∷ items) table key) refl none
  where
    go : (o : Option Held) → newest (item ∷ items) table key ≡ o → None ≡ kept_of o (many_of (item ∷ items) table key) → ⊥
    go None found told = false≢true (sym (none_in none_found (item ∷ items) table key found item (first_stands item items)) ∙ here)
    go (Some x) found told = cc told

-- ---- an entry of the log is applied

-- the entries from a place on are the one there and those behind it
pub from_place : {X : Type 0} (all : List X) (place : ℕ) (entry : X) → slice_get all place ≡ Some entry → drop place all ≡ entry ∷ drop (place + 1) all
from_place [] place entry at = cc at
from_place {X} (first ∷ all) zero entry at = let same : first ≡ entry = cc at in ap (λ (x : X). x ∷ all) same
from_place (first ∷ all) (suc place) entry at = grind (arith, (from_place all place entry at))

-- an item, and those of the entries behind it
pub items_from : (all : List Entry) (place : ℕ) (entry : Entry) (item : Held) → slice_get all place ≡ Some entry → entry ≡ entries.Held item → items_of (drop place all) ≡ item ∷ items_of (drop (place + 1) all)
items_from all place entry item at is = ap items_of (from_place all place entry at) ∙ ap (λ (x : Entry). items_in x ++ items_of (drop (place + 1) all)) is
