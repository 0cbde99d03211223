-- Versions and floors of a key with the entry of a call: what is applied of a key is above what the map has there.
use Rattle.std.proofs.Common.{◌≡◌, ℕ, ◌≤◌, ◌<◌, Bool, true, false, cond, ◌&&◌, eqb, List, [], Option, Some, None, refl, ◌∙◌, arith}
use Rattle.std.proofs.Common.{bytes_eq, Contains, eq-eqb, eqb-true, inl, inr}
use Rattle.rk_inv_base.proofs.Words.{and_from, and_parts, cases_Bool, bytes_eq-Decides, Call, Held, Range, Map, with_change, last_version}
use Rattle.rk_inv_base.proofs.Words.{Entry, first_stands, is_of_from, map_entry_of, items_in, items_of, of_key, tells_of, floor_of}
use Rattle.rk_inv_base.proofs.Words.{AreAboveMap, IsEntryOf}
use Rattle.rk_inv_logs.proofs.apply.Applying.{change_by}
use Rattle.rk_inv_base.proofs.logs.Floors.{floor_above}
use Rattle.rk_inv_logs.proofs.apply.Inserted.{IsInserted, floor_more, inserted_kept, inserted_out, told_new}
use Rattle.rk_entry.specs.declared.entry.Entry.TheVariants as entries

-- ---- the entry of a call

-- the entry of a call concerns the call's key
pub tells_its : (call : Call) (entry : Entry) → IsEntryOf call entry → tells_of call.table call.key entry ≡ true
tells_its call entry own = grind (arith, is_of_from, and_from, eqb, bytes_eq, eq-eqb, bytes_eq-Decides)

-- the floor of the entries that concern a key is no smaller with it
pub key_floor : (entry : Entry) (old now : List Entry) → IsInserted entry old now → (table : ℕ) (key : List ℕ) → floor_of (of_key table key old) ≤ floor_of (of_key table key now)
key_floor entry old now put table key = elim (cases_Bool (tells_of table key entry)) [
  | inl tells ↦ floor_more entry (of_key table key old) (of_key table key now) (inserted_kept entry old now put (tells_of table key) tells)
  | inr silent ↦
      let same : of_key table key now ≡ of_key table key old = inserted_out entry old now put (tells_of table key) silent in
      rw same (omega arith)
]

-- the version of the entry of the map that an item leaves
version_of : (item : Held) (value : Option (List ℕ)) → last_version (map_entry_of item value) ≡ item.version
version_of item None = refl
version_of item (Some value) = refl

-- what is applied of a key stays above the map, with the entry
pub low_inserted : (range : Range) (map : Map) (call : Call) (entry : Entry) (old now : List Entry) → IsEntryOf call entry → IsInserted entry old now → AreAboveMap range map old → AreAboveMap range (with_change map call.table call.key (change_by entry)) now
low_inserted range map call (entries.Held held) old now own put low table key within =
    go (eqb table call.table && bytes_eq key call.key) refl
  where
    was : last_version (map table key) < floor_of (of_key table key now)
    was =
        let before : last_version (map table key) < floor_of (of_key table key old) = low table key within in
        let grows = key_floor (entries.Held held) old now put table key in omega (arith, before, grows)

    go : (here : Bool) → (eqb table call.table && bytes_eq key call.key) ≡ here
        → last_version (cond here (map_entry_of held held.value) (map table key)) < floor_of (of_key table key now)
    go false is = was
    go true is =
        let parts = name_parts table key is in
        let tells : tells_of table key (entries.Held held) ≡ true =
        (λ i. tells_of (parts.0 i) (parts.1 i) (entries.Held held)) ∙ tells_its call (entries.Held held) own in
        let stands : Contains (items_of (of_key table key now)) held =
        told_new (entries.Held held) (of_key table key old) (of_key table key now)
        (inserted_kept (entries.Held held) old now put (tells_of table key) tells) items_in held (first_stands held []) in
        let above : held.version < floor_of (of_key table key now) = floor_above (of_key table key now) held stands in
        omega (arith, above, version_of held held.value)
      where
        name_parts : (table : ℕ) (key : List ℕ) → (eqb table call.table && bytes_eq key call.key) ≡ true → (table ≡ call.table) × (key ≡ call.key)
        name_parts table key is =
            let both = and_parts (eqb table call.table) (bytes_eq key call.key) is in
            (eqb-true table call.table both.0, (bytes_eq-Decides key call.key).0 both.1)
low_inserted range map call (entries.Refused refused) old now own put low table key within =
    let before : last_version (map table key) < floor_of (of_key table key old) = low table key within in
    let grows = key_floor (entries.Refused refused) old now put table key in omega (arith, before, grows)
low_inserted range map call _ old now own put low table key within = absurd own
