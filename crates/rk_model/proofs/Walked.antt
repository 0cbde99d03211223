-- One more record of a history that is walked from the first.
use Rattle.std.proofs.Common.{◌≡◌, ℕ, ◌+◌, ◌<◌, List, [], ◌∷◌, ◌++◌, length, get_or, take, sym, ap, ◌∙◌, subst}
use Rattle.std.proofs.lemmas.List.{take_more}
use Rattle.rk_types.specs.declared.history.Placed.{Placed}
use Rattle.rk_model.specs.Machine.{Entry, Allowed}
use Rattle.rk_model.specs.History.{Map, IsLegal, IsAllowedIn, empty_map, map_after, map_with}
use Rattle.rk_model.proofs.Histories.{map_after-append, legal_push}

-- the records so far, with the one at this place
take_read :
    (history : List Placed) (place : ℕ) (placed : Placed)
    → place < length history → placed ≡ get_or history place placed
    → take (place + 1) history ≡ take place history ++ placed ∷ []
take_read history place placed within read =
    take_more history place placed within ∙ ap (λ (p : Placed). take place history ++ p ∷ []) (sym read)

-- they are legal if those before are, and the map after those allows this one
pub legal_more :
    (history : List Placed) (place : ℕ) (placed : Placed)
    → place < length history → placed ≡ get_or history place placed
    → IsLegal empty_map (take place history)
    → IsAllowedIn (map_after empty_map (take place history)) placed
    → IsLegal empty_map (take (place + 1) history)
legal_more history place placed within read legal allowed =
    subst (IsLegal empty_map) (sym (take_read history place placed within read))
    (legal_push empty_map (take place history) placed legal allowed)

-- the map after them is that after those before, with this one
pub map_after_more :
    (history : List Placed) (place : ℕ) (placed : Placed)
    → place < length history → placed ≡ get_or history place placed
    → map_after empty_map (take (place + 1) history) ≡ map_with (map_after empty_map (take place history)) placed
map_after_more history place placed within read =
    ap (map_after empty_map) (take_read history place placed within read)
    ∙ map_after-append empty_map (take place history) (placed ∷ [])

-- what an entry allows is allowed where the map has that entry
pub allowed_at :
    (map : Map) (placed : Placed) (entry : Entry)
    → entry ≡ map placed.call.table placed.call.key → Allowed entry placed.call.op placed.outcome → IsAllowedIn map placed
allowed_at map placed entry here allowed =
    subst (λ (e : Entry). Allowed e placed.call.op placed.outcome) here allowed
