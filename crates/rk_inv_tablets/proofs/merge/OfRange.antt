-- What the entries of a rebuild of one range are to another one, and that what a rebuild merges is of its range.
use Rattle.std.proofs.Common.{arith, ◌≡◌, ℕ, Bool, true, false, cond, List, [], ◌∷◌, filter, map, refl, ◌==◌, not, All, Contains, flat_map}
use Rattle.rk_inv_base.proofs.Words.{cond_both, All-append, All-cons, All-contains, All-filter, All-head, All-map, All-nil}
use Rattle.rk_inv_base.proofs.Words.{All-tail, All-weaker, meets, Held, Range, Entry, is_in, Handover, newest_is}
use Rattle.rk_inv_base.proofs.Words.{newest_items_are, newest_items, items_in, items_of, Gather, Gathered, by_member, counted_of}
use Rattle.rk_inv_base.proofs.Words.{is_of_lineage, material_by, side_read, touches, as_entries, counting, counts, is_joined_in}
use Rattle.rk_inv_base.proofs.Words.{material_of, named, has_version, merge, segments_in, IsOfRange, named_by}
use Rattle.rk_inv_tablets.proofs.Words.{main_entries, piece_entries, key_outside, kept_stands, all_by, all_flat}
use Rattle.rk_entry.specs.declared.entry.Entry.TheVariants as entries

-- ---- an entry of a rebuild of a range

-- names no side segment
pub segments_none : (a : Range) (e : Entry) → IsOfRange a e → segments_in e ≡ []
segments_none a (entries.Joined joined) of = absurd of
segments_none a _ of = refl

pub names_none : (a b : Range) (e : Entry) → IsOfRange a e → named_by b e ≡ []
names_none a b (entries.Joined joined) of = absurd of
names_none a b _ of = refl

-- and is no Joined
pub joins_none : (a b : Range) (e : Entry) → IsOfRange a e → is_joined_in b e ≡ false
joins_none a b (entries.Joined joined) of = absurd of
joins_none a b _ of = refl

-- it touches no range that does not meet its own
pub touches_none : (a b : Range) → meets a b ≡ false → meets b a ≡ false → (e : Entry) → IsOfRange a e → touches b e ≡ false
touches_none a b apart back e of = grind (arith, key_outside, meets)

-- ---- what counts for a range is of it

-- an entry counts for a range
abbrev pub Counts : Range → Entry → Type 0
Counts range e = counts range e ≡ true

-- all that is kept of entries counts, and so does all that counts of a log
pub counting_counts : (range : Range) (list : List Entry) → All (Counts range) (counting range list)
counting_counts range list = all_by (Counts range) (counting range list) (λ e at. (kept_stands (counts range) list e at).1)

pub material_counts : (range : Range) (side : ℕ → List Entry) (list : List Entry) → All (Counts range) (material_of range side list)
material_counts range side list =
    let named_ones : List Entry = flat_map side (named range list) in
    All-append (Counts range) (counting range list) (counting range named_ones) (counting_counts range list) (counting_counts range named_ones)

-- so its items are in the range
pub items_inside : (range : Range) (list : List Entry) → All (Counts range) list → All (λ item. is_in range item ≡ true) (items_of list)
items_inside range [] each = All-nil (λ item. is_in range item ≡ true)
items_inside range (entry ∷ list) each =
    All-append (λ item. is_in range item ≡ true) (items_in entry) (items_of list) (one entry (All-head (Counts range) entry list each))
    (items_inside range list (All-tail (Counts range) entry list each))
  where
    one : (e : Entry) → Counts range e → All (λ item. is_in range item ≡ true) (items_in e)
    one (entries.Held held) inside = All-cons (λ item. is_in range item ≡ true) held [] inside (All-nil _)
    one _ inside = All-nil _

-- ---- what is merged

-- what holds of each own entry, and of each that counts of what was gathered, holds of all that is merged
pub by_member_all : (P : Entry → Type 0) (gather : Gather) (own : List Entry) → All P own → All (λ gathered. All P (counted_of gather.range gathered)) gather.members → All P (flat_map (λ list. list) (by_member gather own))
by_member_all P gather own mine each =
    let groups : List (List Entry) = map (λ member. material_by gather own member.master) gather.lineage in
    all_flat P (λ list. list) (by_member gather own)
    (All-append (All P) groups (cond (is_of_lineage gather) [] (own ∷ []))
    (All-map (All P) (λ member. material_by gather own member.master) gather.lineage (all_by _ gather.lineage (λ member at. by member.master)))
    (cond_both (is_of_lineage gather) [] (own ∷ []) (All (All P)) (λ e. All-nil (All P)) (λ e. All-cons (All P) own [] mine (All-nil (All P)))))
  where
    by : (master : ℕ) → All P (material_by gather own master)
    by master =
        let here : Gathered → Bool = λ gathered. gathered.member.master == master in
        cond_both (master == gather.own) own (flat_map (counted_of gather.range) (filter here gather.members)) (All P) (λ e. mine)
        (λ e.
        all_flat P (counted_of gather.range) (filter here gather.members)
        (All-filter here (λ gathered. All P (counted_of gather.range gathered)) gather.members each))

-- so all that is merged counts for the range of the gather
pub read_counts : (gather : Gather) (own : List Entry) → All (Counts gather.range) own → All (Counts gather.range) (flat_map (λ list. list) (by_member gather own))
read_counts gather own mine = search (by_member_all, all_by, material_counts, side_read, main_entries, gather.range, gather.members)

-- the newest items are items
pub newest_stand : (items : List Held) → All (Contains items) (newest_items items)
newest_stand items =
    all_by (Contains items) (newest_items items)
    (λ item at. (newest_is items item.table item.key item (((newest_items_are items).newest item).0 at)).stands)

-- so the copies are in it, and the whole piece is of it
pub piece_inside : (gather : Gather) (own : List Entry) (handover : Handover) → handover.range ≡ gather.range → All (Counts gather.range) own → All (IsOfRange gather.range) (piece_entries handover (merge own (by_member gather own)))
piece_inside gather own handover range mine =
    let all : List Held = items_of (flat_map (λ list. list) (by_member gather own)) in
    let inside : All (λ item. is_in gather.range item ≡ true) all =
    items_inside gather.range (flat_map (λ list. list) (by_member gather own)) (read_counts gather own mine) in
    All-append (IsOfRange gather.range) (as_entries (merge own (by_member gather own)).copies) _
    (All-map (IsOfRange gather.range) entries.Held (merge own (by_member gather own)).copies
    (All-filter (λ item. not (has_version (items_of own) item)) (λ item. is_in gather.range item ≡ true) (newest_items all)
    (All-weaker (Contains all) (λ item. is_in gather.range item ≡ true) (λ item at. All-contains (λ item. is_in gather.range item ≡ true) all item inside at)
    (newest_items all) (newest_stand all))))
    (All-cons (IsOfRange gather.range) _ [] range (All-nil _))
