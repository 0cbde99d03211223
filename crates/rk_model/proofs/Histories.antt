-- Histories joined end to end: legal and the map after, part by part.
use Rattle.std.proofs.Common.{◌≡◌, List, [], ◌∷◌, ◌++◌, refl}
use Rattle.rk_types.specs.declared.history.Placed.{Placed}
use Rattle.rk_model.specs.History.{Map, IsLegal, IsAllowedIn, map_after, map_with}

-- the map after two histories is the map after the second, which starts from the map after the first
pub map_after-append : (m : Map) (front back : List Placed) → map_after m (front ++ back) ≡ map_after (map_after m front) back
map_after-append m [] back = refl
map_after-append m (placed ∷ front) back = map_after-append (map_with m placed) front back

-- a history that goes on legally after a legal one
pub IsLegal-append :
    (m : Map) (front back : List Placed) → IsLegal m front → IsLegal (map_after m front) back → IsLegal m (front ++ back)
IsLegal-append m [] back before after = after
IsLegal-append m (placed ∷ front) back before after =
    (before.0, IsLegal-append (map_with m placed) front back before.1 after)

-- the first part of a legal history is legal
pub legal_front : (m : Map) (front back : List Placed) → IsLegal m (front ++ back) → IsLegal m front
legal_front m [] back legal = tt
legal_front m (placed ∷ front) back legal = (legal.0, legal_front (map_with m placed) front back legal.1)

-- the rest of a legal history is legal from the map after its first part
pub legal_back : (m : Map) (front back : List Placed) → IsLegal m (front ++ back) → IsLegal (map_after m front) back
legal_back m [] back legal = legal
legal_back m (placed ∷ front) back legal = legal_back (map_with m placed) front back legal.1

-- a legal history stays legal with a record that the map after it allows
pub legal_push :
    (m : Map) (history : List Placed) (placed : Placed)
    → IsLegal m history → IsAllowedIn (map_after m history) placed → IsLegal m (history ++ placed ∷ [])
legal_push m history placed legal allowed = IsLegal-append m history (placed ∷ []) legal (allowed, tt)
