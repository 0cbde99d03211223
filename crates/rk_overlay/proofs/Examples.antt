-- Worked examples: small lists for which the definitions are seen to mean what they should.
use Rattle.std.proofs.Common.{◌≡◌, ℕ, List, [], ◌∷◌, ◌≢◌, Option, Some, None, refl, ap, get_or, arith}
use Rattle.std.specs.Prelude.{codes}
use Rattle.rk_types.specs.declared.held.Held.{Held}
use Rattle.rk_overlay.specs.Newest.{newest}
use Rattle.rk_overlay.specs.Live.{live, live_from}
use Rattle.rk_overlay.specs.Plain.{IsPlain}
use Rattle.rk_overlay.specs.Overlay.{overlay}
use Rattle.rk_overlay.proofs.Alike.{overlay_swapped}

-- an item of a table and key, with this version and value
abbrev item_of : ℕ → List ℕ → ℕ → Option (List ℕ) → Held
item_of table key version value = record { table = table; version = version; client = 1; seq = version; key = key; value = value }

-- `a` with value `x` and version 1, and its tombstone with version 2
abbrev put : Held
put = item_of 1 (codes "a") 1 (Some (codes "x"))

abbrev tombstone : Held
tombstone = item_of 1 (codes "a") 2 None

-- the tombstone alone is left of both, whichever list has it, and no record is live
tombstone_over_put : overlay (put ∷ []) (tombstone ∷ []) ≡ tombstone ∷ []
tombstone_over_put = refl

put_under_tombstone : overlay (tombstone ∷ []) (put ∷ []) ≡ tombstone ∷ []
put_under_tombstone = refl

live_put : live (put ∷ []) 1 (codes "a") ≡ Some (1, codes "x")
live_put = refl

live_tombstone : live (put ∷ tombstone ∷ []) 1 (codes "a") ≡ None
live_tombstone = refl

-- what was found before a list counts like an item before it
found_before : live_from (newest (tombstone ∷ [])) (put ∷ []) 1 (codes "a") ≡ None
found_before = refl

-- another table is another record
other_table : newest (put ∷ []) 2 (codes "a") ≡ None
other_table = refl

-- two items of one key and one version
abbrev x_at_three : Held
x_at_three = item_of 1 (codes "a") 3 (Some (codes "x"))

abbrev y_at_three : Held
y_at_three = item_of 1 (codes "a") 3 (Some (codes "y"))

-- that of the first list counts
first_on_a_tie : overlay (x_at_three ∷ []) (y_at_three ∷ []) ≡ x_at_three ∷ []
first_on_a_tie = refl

second_on_a_tie : overlay (y_at_three ∷ []) (x_at_three ∷ []) ≡ y_at_three ∷ []
second_on_a_tie = refl

-- so such lists are not plain, and their order matters
first_byte : Option (List ℕ) → ℕ
first_byte None = 0
first_byte (Some value) = get_or value 0 0

abbrev first_value : List Held → ℕ
first_value [] = 0
first_value (item ∷ items) = first_byte item.value

order_matters : overlay (x_at_three ∷ []) (y_at_three ∷ []) ≢ overlay (y_at_three ∷ []) (x_at_three ∷ [])
unfolding first_byte
order_matters same = let bytes : ◌≡◌ {A = ℕ} 120 121 = ap first_value same in omega (arith, bytes)

not_plain : IsPlain (x_at_three ∷ y_at_three ∷ []) → ⊥
not_plain plain = order_matters (overlay_swapped (x_at_three ∷ []) (y_at_three ∷ []) plain)

-- the order: by version, then by table, then by key, a shorter key first
in_their_order :
    overlay
    (item_of 1 (codes "z") 7 None ∷ item_of 2 (codes "a") 5 None ∷ item_of 1 (codes "b") 5 None ∷ [])
    (item_of 1 (codes "ab") 5 None ∷ item_of 1 (codes "a") 5 None ∷ item_of 1 (codes "z") 4 None ∷ item_of 2 (codes "z") 1 None ∷ [])
    ≡ item_of 2 (codes "z") 1 None
    ∷ item_of 1 (codes "a") 5 None
    ∷ item_of 1 (codes "ab") 5 None
    ∷ item_of 1 (codes "b") 5 None
    ∷ item_of 2 (codes "a") 5 None
    ∷ item_of 1 (codes "z") 7 None
    ∷ []
in_their_order = refl

-- nothing over nothing
nothing : overlay [] [] ≡ []
nothing = refl
