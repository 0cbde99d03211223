-- The live records of plain lists and of overlays.
use Rattle.std.proofs.Common.{arith, ◌≡◌, ℕ, List, ◌++◌, Option, Some, ap}
use Rattle.std.proofs.lemmas.Option.{some_pair_parts}
use Rattle.rk_types.specs.declared.held.Held.{Held}
use Rattle.rk_overlay.specs.Newest.{newest}
use Rattle.rk_overlay.specs.Live.{record_of, live}
use Rattle.rk_overlay.specs.Plain.{IsPlain, HaveSame}
use Rattle.rk_overlay.specs.Overlay.{overlay}
use Rattle.rk_overlay.proofs.Alike.{newest_alike}
use Rattle.rk_overlay.proofs.Overlays.{newest_of_newest}

-- the item that has a version and value
pub item_of : (found : Option Held) (version : ℕ) (value : List ℕ) → record_of found ≡ Some (version, value)
    → (item : Held) × (found ≡ Some item) × (item.version ≡ version) × (item.value ≡ Some value)
item_of found version value is = grind (arith, some_pair_parts)

-- plain lists with the same items have the same records
pub live_alike : (xs ys : List Held) → IsPlain xs → HaveSame xs ys → (table : ℕ) (key : List ℕ) → live xs table key ≡ live ys table key
live_alike xs ys plain same table key = ap record_of (newest_alike xs ys plain same table key)

-- an overlay has the records of both lists in a row
pub newest_of_overlay : (a b : List Held) (table : ℕ) (key : List ℕ) → newest (overlay a b) table key ≡ newest (a ++ b) table key
newest_of_overlay a b = newest_of_newest (a ++ b)

pub live_of_overlay : (a b : List Held) (table : ℕ) (key : List ℕ) → live (overlay a b) table key ≡ live (a ++ b) table key
live_of_overlay a b table key = ap record_of (newest_of_overlay a b table key)
