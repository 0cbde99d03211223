-- The newest item as the fold finds it, and by what is in a list.
use Rattle.std.proofs.Common.{◌≡◌, ℕ, ◌≤◌, true, List, Option, Some, None, refl, sym, ap, ◌∙◌, ⊎_elim, arith}
use Rattle.std.specs.Prelude.{◌↔◌}
use Rattle.std.specs.List.{Contains}
use Rattle.std.proofs.lemmas.Bool.{false≢true}
use Rattle.rk_types.specs.declared.held.Held.{Held}
use Rattle.rk_overlay.specs.Newest.{is_of, newest, none_found, IsNewest, HasNone}
use Rattle.rk_overlay.specs.Plain.{IsPlain}
use Rattle.rk_overlay.proofs.Names.{is_of_parts}
use Rattle.rk_overlay.proofs.Folds.{newest_from_is, none_in, newest_from-none}

-- what is found is in the list, and none of its record there has a greater version
pub newest_is : (items : List Held) (table : ℕ) (key : List ℕ) (item : Held) → newest items table key ≡ Some item → IsNewest items table key item
newest_is items table key item is =
    let from = newest_from_is none_found items table key item is in
    ⊎_elim
    (λ (nothing : None ≡ Some item). absurd (cc))
    (λ (at : Contains items item × (is_of table key item ≡ true)).
    record { stands = at.0; of_record = at.1; greatest = from.greatest })
    from.stands

-- nothing is found just if no item is of the record
pub newest_none : (items : List Held) (table : ℕ) (key : List ℕ) → (newest items table key ≡ None) ↔ HasNone items table key
newest_none items table key = (none_in none_found items table key, newest_from-none none_found items table key)

-- if an item is of the record, an item with as great a version is found
pub newest_some :
    (items : List Held) (table : ℕ) (key : List ℕ) (item : Held) → IsNewest items table key item
    → (other : Held) × (newest items table key ≡ Some other) × (other.version ≡ item.version)
newest_some items table key item best = go (newest items table key) refl
  where
    go : (o : Option Held) → newest items table key ≡ o → (other : Held) × (newest items table key ≡ Some other) × (other.version ≡ item.version)
    go None none = absurd (false≢true (sym ((newest_none items table key).0 none item best.stands) ∙ best.of_record))
    go (Some other) is =
        let found = newest_is items table key other is in
        let up : other.version ≤ item.version = best.greatest other found.stands found.of_record in
        let down : item.version ≤ other.version = found.greatest item best.stands best.of_record in
        (other, is, omega arith)

-- in a plain list, an item that none is newer than is the item that is found
pub newest_found :
    (items : List Held) (table : ℕ) (key : List ℕ) (item : Held)
    → IsPlain items → IsNewest items table key item → newest items table key ≡ Some item
newest_found items table key item plain best =
    let some = newest_some items table key item best in
    let other = newest_is items table key some.0 some.1 in
    let mine = is_of_parts table key item best.of_record in
    let its = is_of_parts table key some.0 other.of_record in
    some.1 ∙ ap Some (plain some.0 item other.stands best.stands (its.0 ∙ sym mine.0) (its.1 ∙ sym mine.1) some.2)
