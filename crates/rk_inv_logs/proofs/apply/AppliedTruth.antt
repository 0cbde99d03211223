-- What the entry of a call leaves of a truth, at whatever place of it: what the call leaves of the map.
use Rattle.std.proofs.Common.{◌≡◌, ℕ, ◌<◌, true, false, ◌&&◌, eqb, List, [], ◌∷◌, ◌++◌, Some, refl, sym, ap, ◌∙◌, ⊎_elim, bytes_eq}
use Rattle.rk_inv_base.proofs.Words.{cases_Bool, cond-true, cond-false, flat_map-append, All-contains, All-head, Call, Held, name-swap, Map}
use Rattle.rk_inv_base.proofs.Words.{with_change, Entry, newest_is, newer_item, newest_from-append, with_newer_here, with_newer_other}
use Rattle.rk_inv_base.proofs.Words.{is_of_from, is_of_parts, record_of, is_of, newest, none_found, map_entry_of, items_in, items_of}
use Rattle.rk_inv_base.proofs.Words.{IsAboveAll, IsEntryOf}
use Rattle.rk_inv_logs.proofs.Words.{record_put, append_nil, map_record_of, with_entry}
use Rattle.rk_overlay.specs.Live.{live as live_items}
use Rattle.rk_inv_logs.proofs.apply.Applying.{change_by}
use Rattle.rk_inv_logs.proofs.apply.Inserted.{AreNewest, IsInserted, newest_inserted}
use Rattle.rk_entry.specs.declared.entry.Entry.TheVariants as entries

-- ---- what an item leaves

-- an item above all others of its key is what a map has that took it last
live_put : (map : Map) (items : List Held) (item : Held) (table : ℕ) (key : List ℕ) → IsAboveAll items item → live_items items table key ≡ map_record_of (map table key)
    → live_items (items ++ item ∷ []) table key ≡ map_record_of (with_entry map item.table item.key (map_entry_of item item.value) table key)
live_put map items item table key above same = ap (λ found. record_of (found table key)) (newest_from-append none_found items (item ∷ []))
    ∙ ⊎_elim
    (λ (here : is_of table key item ≡ true).
    ap record_of (with_newer_here (newest items) item table key here)
    ∙ ap (λ (x : Held). record_of (Some x)) (newer_item (newest items table key) item (older here)) ∙ record_put item item.value refl
    ∙ sym
    (ap map_record_of
    (cond-true (eqb table item.table && bytes_eq key item.key) (map_entry_of item item.value) (map table key)
    (name-swap table item.table key item.key ∙ here))))
    (λ (other : is_of table key item ≡ false).
    ap record_of (with_newer_other (newest items) item table key other) ∙ same
    ∙ sym
    (ap map_record_of
    (cond-false (eqb table item.table && bytes_eq key item.key) (map_entry_of item item.value) (map table key)
    (name-swap table item.table key item.key ∙ other)))) (cases_Bool (is_of table key item))
  where
    older : is_of table key item ≡ true → (old : Held) → newest items table key ≡ Some old → old.version < item.version
    older here old is =
        let at = newest_is items table key old is in
        let its = is_of_parts table key item here in
        let one = is_of_parts table key old at.of_record in
        All-contains (λ (other : Held). is_of item.table item.key other ≡ true → other.version < item.version) items old above at.stands
        (is_of_from item.table item.key old (one.0 ∙ sym its.0) (one.1 ∙ sym its.1))

-- so the entry of a call leaves what the call does
module _ (map : Map) (truth : List Entry) (call : Call) (table : ℕ) (key : List ℕ) where
  without_item : (entry : Entry) → items_in entry ≡ [] → live_items (items_of (truth ++ entry ∷ [])) table key ≡ live_items (items_of truth) table key
  without_item entry none = ap (λ (items : List Held). live_items items table key)
      (flat_map-append items_in truth (entry ∷ []) ∙ ap (λ (l : List Held). items_of truth ++ (l ++ [])) none ∙ append_nil (items_of truth))

  pub live_last : (entry : Entry) → IsEntryOf call entry → AreNewest truth entry → live_items (items_of truth) table key ≡ map_record_of (map table key)
      → live_items (items_of (truth ++ entry ∷ [])) table key ≡ map_record_of (with_change map call.table call.key (change_by entry) table key)
  live_last (entries.Held held) own above same =
      ap (λ (items : List Held). live_items items table key) (flat_map-append items_in truth (entries.Held held ∷ []))
      ∙ live_put map (items_of truth) held table key (All-head (IsAboveAll (items_of truth)) held [] above) same
      ∙ (λ i. map_record_of (with_entry map (sym own.table_is i) (sym own.key_is i) (map_entry_of held held.value) table key))
  live_last (entries.Refused refused) own above same = without_item (entries.Refused refused) refl ∙ same
  live_last _ own above same = absurd own

-- wherever the entry is
pub live_inserted : (old now : List Entry) (entry : Entry) → IsInserted entry old now → AreNewest old entry → (table : ℕ) (key : List ℕ) → live_items (items_of now) table key ≡ live_items (items_of (old ++ entry ∷ [])) table key
live_inserted old now entry put above table key = ap (λ (l : List Entry). live_items (items_of l) table key) (sym (append_nil now))
    ∙ ap record_of (newest_inserted old now entry [] put above table key)
