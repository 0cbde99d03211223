-- The laws of the newest items of lists.
use Rattle.std.specs.Prelude.{◌≡◌, ◌↔◌, ℕ, List, [], ◌∷◌, ◌++◌, Contains, Some, None}
use Rattle.std.proofs.Common.{arith, append_assoc, ap, ◌∙◌, sym}
use Rattle.std.proofs.lemmas.List.{append-nil}
use Rattle.rk_types.specs.declared.held.Held.{Held}
use Rattle.rk_overlay.specs.Live.{IsLive, live, live_from, record_of}
use Rattle.rk_overlay.specs.Newest.{Found, HasNone, IsNewest, newest, newest_from}
use Rattle.rk_overlay.specs.Overlay.{IsOverlayOf, overlay, newest_items}
use Rattle.rk_overlay.specs.Plain.{HaveSame, IsPlain}
use Rattle.rk_overlay.proofs.Folds.{newest_from-append, newest_from-same}
use Rattle.rk_overlay.proofs.Bridges.{newest_is, newest_found}
use Rattle.rk_overlay.proofs.Live.{item_of}
use Rattle.rk_overlay.proofs.Overlays.{newest_items_same, newest_of_newest}
use Rattle.rk_overlay.proofs.Alike.{newest_items_alike, same_repeated, newest_twice}

-- What is found after two lists in a row is what the second leaves of what is found after the first; so are the
-- records.
pub newest_of_joined_lists : (found : Found) (front back : List Held)
    → newest_from found (front ++ back) ≡ newest_from (newest_from found front) back
newest_of_joined_lists = Rattle.rk_overlay.proofs.Folds.newest_from-append

pub live_of_joined_lists : (found : Found) (front back : List Held)
    → live_from found (front ++ back) ≡ live_from (newest_from found front) back
live_of_joined_lists found front back = λ i table key. record_of (newest_from-append found front back i table key)

-- The item that is found of a record is in the list, and none of the record there has a greater version; none is
-- found exactly when no item is of the record. Every newest item has the version of the item that is found, and in a
-- plain list is that one.
pub newest_item_has_the_greatest_version : (items : List Held) (table : ℕ) (key : List ℕ) (item : Held) → newest items table key ≡ Some item
    → IsNewest items table key item
newest_item_has_the_greatest_version = Rattle.rk_overlay.proofs.Bridges.newest_is

pub none_is_found_without_items : (items : List Held) (table : ℕ) (key : List ℕ) → (newest items table key ≡ None) ↔ HasNone items table key
none_is_found_without_items = Rattle.rk_overlay.proofs.Bridges.newest_none

pub every_newest_item_has_its_version : (items : List Held) (table : ℕ) (key : List ℕ) (item : Held) → IsNewest items table key item
    → (other : Held) × (newest items table key ≡ Some other) × (other.version ≡ item.version)
every_newest_item_has_its_version = Rattle.rk_overlay.proofs.Bridges.newest_some

pub newest_item_of_a_plain_list : (items : List Held) (table : ℕ) (key : List ℕ) (item : Held) → IsPlain items
    → IsNewest items table key item → newest items table key ≡ Some item
newest_item_of_a_plain_list = Rattle.rk_overlay.proofs.Bridges.newest_found

-- A record is live with the version and value of a newest item of its key; in a plain list each such item makes it
-- live.
pub live_record_is_a_newest_value : (items : List Held) (table : ℕ) (key : List ℕ) (version : ℕ) (value : List ℕ)
    → live items table key ≡ Some (version, value) → IsLive items table key version value
live_record_is_a_newest_value items table key version value is =
    let has = item_of (newest items table key) version value is in
    record { item = has.0; newest = newest_is items table key has.0 has.1; has_version = has.2; has_value = has.3 }

pub newest_value_is_live_in_a_plain_list : (items : List Held) (table : ℕ) (key : List ℕ) (version : ℕ) (value : List ℕ) → IsPlain items
    → IsLive items table key version value → live items table key ≡ Some (version, value)
newest_value_is_live_in_a_plain_list items table key version value plain is = grind (arith, newest_found)

-- The overlay of two lists has just the newest items of both, in order and each once, and no other list has. It is
-- plain.
pub overlay_has_just_the_newest_items : (a b : List Held) → IsOverlayOf (a ++ b) (overlay a b)
overlay_has_just_the_newest_items a b = Rattle.rk_overlay.proofs.Overlays.newest_items_are (a ++ b)

pub no_other_list_is_the_overlay : (a b items : List Held) → IsOverlayOf (a ++ b) items → items ≡ overlay a b
no_other_list_is_the_overlay a b items = Rattle.rk_overlay.proofs.Overlays.newest_items_alone (a ++ b) items

pub overlay_is_plain : (a b : List Held) → IsPlain (overlay a b)
overlay_is_plain a b = Rattle.rk_overlay.proofs.Overlays.newest_items_plain (a ++ b)

-- An overlay represents its two lists: it has their newest items and their records, and a list that is laid on it may
-- as well be laid on them. So a list without items changes nothing when it is laid on it.
pub overlay_has_the_newest_items_of_both : (a b : List Held) (table : ℕ) (key : List ℕ)
    → newest (overlay a b) table key ≡ newest (a ++ b) table key
overlay_has_the_newest_items_of_both = Rattle.rk_overlay.proofs.Live.newest_of_overlay

pub overlay_has_the_records_of_both : (a b : List Held) (table : ℕ) (key : List ℕ) → live (overlay a b) table key ≡ live (a ++ b) table key
overlay_has_the_records_of_both = Rattle.rk_overlay.proofs.Live.live_of_overlay

pub overlays_join : (a b c : List Held) → overlay (overlay a b) c ≡ overlay a (b ++ c)
overlays_join a b c = grind (arith, append_assoc, newest_items_same, newest_from-append, newest_from-same, newest_of_newest)

pub overlay_of_nothing_changes_nothing : (a b : List Held) → overlay (overlay a b) [] ≡ overlay a b
overlay_of_nothing_changes_nothing a b = overlays_join a b [] ∙ ap (overlay a) (append-nil b)

-- Plain lists of the same items, in whatever order and however often, have the same newest items, records
-- and overlays.
pub newest_of_plain_lists_alike : (xs ys : List Held) (table : ℕ) (key : List ℕ) → IsPlain xs → HaveSame xs ys
    → newest xs table key ≡ newest ys table key
newest_of_plain_lists_alike xs ys table key plain same = Rattle.rk_overlay.proofs.Alike.newest_alike xs ys plain same table key

pub live_of_plain_lists_alike : (xs ys : List Held) (table : ℕ) (key : List ℕ) → IsPlain xs → HaveSame xs ys
    → live xs table key ≡ live ys table key
live_of_plain_lists_alike xs ys table key plain same = Rattle.rk_overlay.proofs.Live.live_alike xs ys plain same table key

pub overlays_of_plain_lists_alike : (a b c d : List Held) → IsPlain (a ++ b) → HaveSame (a ++ b) (c ++ d) → overlay a b ≡ overlay c d
overlays_of_plain_lists_alike a b c d = newest_items_alike (a ++ b) (c ++ d)

pub plain_lists_may_change_places : (a b : List Held) → IsPlain (a ++ b) → overlay a b ≡ overlay b a
plain_lists_may_change_places = Rattle.rk_overlay.proofs.Alike.overlay_swapped

-- Of two lists that are plain together, an item that is in one of them changes nothing when it is put before the
-- second. A list that is laid on itself changes nothing, plain or not.
pub repeated_item_changes_nothing : (a b : List Held) (item : Held) → IsPlain (a ++ b) → Contains (a ++ b) item
    → overlay a (item ∷ b) ≡ overlay a b
repeated_item_changes_nothing a b item plain stood =
    let same = same_repeated a b item stood in
    sym (newest_items_alike (a ++ b) (a ++ item ∷ b) plain (λ other. ((same other).1, (same other).0)))

pub repeated_list_changes_nothing : (a : List Held) → overlay a a ≡ overlay a []
repeated_list_changes_nothing a = newest_items_same (a ++ a) a (newest_twice a) ∙ ap newest_items (sym (append-nil a))
