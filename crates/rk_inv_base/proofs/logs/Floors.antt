-- The number from which the next version is taken is above each version, and does not fall with more entries.
use Rattle.rk_inv_base.proofs.Words.{◌≡◌, ℕ, ◌≤◌, ◌<◌, ◌+◌, List, [], ◌∷◌, ◌++◌, subst, ⊎_elim, arith, append_assoc, fold, max, Contains}
use Rattle.rk_inv_base.proofs.Words.{fold-append, Held, Entry, none_stands, stands_cases, items_of, floor_by, floor_of, IsNext, Refused}
use Rattle.rk_entry.specs.declared.entry.Entry.TheVariants as entries

-- a floor does not fall with an entry
pub floor_step : (floor : ℕ) (entry : Entry) → floor ≤ floor_by floor entry
floor_step floor entry = grind arith

-- nor with several
pub floor_rises : (floor : ℕ) (list : List Entry) → floor ≤ fold floor_by floor list
floor_rises floor [] = omega arith
floor_rises floor (entry ∷ list) = grind (arith, floor_step, floor_by, (floor_rises (floor_by floor entry) list))

-- from a floor on, it is above each version
pub above_from : (floor : ℕ) (list : List Entry) (item : Held) → Contains (items_of list) item → item.version < fold floor_by floor list
above_from floor [] item at = absurd (none_stands item at)
above_from floor (entries.Held held ∷ list) item at =
    ⊎_elim
    (λ (same : held ≡ item).
    subst (λ (x : Held). x.version < fold floor_by (max floor (held.version + 1)) list) same
    (omega (arith, floor_rises (max floor (held.version + 1)) list)))
    (λ (behind : Contains (items_of list) item). above_from (max floor (held.version + 1)) list item behind)
    (stands_cases held (items_of list) item at)
above_from floor (entries.Refused refused ∷ list) item at = above_from floor list item at
above_from floor (entries.Carried carried ∷ list) item at = above_from (max floor carried.floor) list item at
above_from floor (entries.Joined joined ∷ list) item at = above_from floor list item at

-- it is above each version
pub floor_above : (list : List Entry) (item : Held) → Contains (items_of list) item → item.version < floor_of list
floor_above list item at = above_from 1 list item at

-- it is as great with more entries behind
pub floor_append : (floor : ℕ) (list more : List Entry) → fold floor_by floor list ≤ fold floor_by floor (list ++ more)
floor_append floor [] more = floor_rises floor more
floor_append floor (entry ∷ list) more = floor_append (floor_by floor entry) list more

-- so one more item that took the next number as its version has the one after it behind it
pub next_push : (truth rest : List Entry) (number : ℕ) (item : Held) → item.version ≡ number → IsNext (truth ++ rest) number → IsNext (truth ++ (rest ++ entries.Held item ∷ [])) (number + 1)
next_push truth rest number item version next = grind (arith, floor_of, max, append_assoc, fold-append, floor_by)

-- an entry that bears neither a version nor a floor leaves the next number what it is
pub next_stays : (truth rest : List Entry) (number : ℕ) (refused : Refused) → IsNext (truth ++ rest) number → IsNext (truth ++ (rest ++ entries.Refused refused ∷ [])) number
next_stays truth rest number refused next = grind (arith, floor_of, append_assoc, fold-append, floor_by)
