-- Ends of distinct clients that are all among some clients are no more than these; and so are ends of rising clients.
use Rattle.std.proofs.Common.{◌≡◌, ◌≤◌, ◌||◌, ℕ, true, false, nat_eq, List, [], ◌∷◌, map, length, All, refl, sym, subst, ◌∙◌, arith}
use Rattle.std.proofs.Common.{eqb-true, ne_eqb}
use Rattle.rk_inv_wellformed.proofs.Words.{length-map, All-head, All-tail, AllByRecursion, nat_eq_equiv, list_any, Ended, is_among}
use Rattle.rk_inv_wellformed.proofs.Words.{AreOfDistinctClients, RiseAbove, IsDistinct-cons}
use Rattle.std.proofs.lemmas.Map.Made.{length-le_from_is_member}
use Rattle.std.specs.List.{IsDistinct}

among_turned : (number : ℕ) (numbers : List ℕ) → is_among number numbers ≡ list_any (nat_eq number) numbers
among_turned number [] = refl
among_turned number (first ∷ rest) = cc (nat_eq_equiv.symm first number, among_turned number rest)

client_among : (list : List Ended) (clients : List ℕ) (client : ℕ) → All (λ end. is_among end.client clients ≡ true) list → list_any (nat_eq client) (map (λ end. end.client) list) ≡ true → list_any (nat_eq client) clients ≡ true
client_among [] clients client all is = absurd (cc is)
client_among (end ∷ list) clients client all is =
    elim (nat_eq client end.client) as (λ b. nat_eq client end.client ≡ b → (b || list_any (nat_eq client) (map (λ end. end.client) list)) ≡ true → list_any (nat_eq client) clients ≡ true) [
      | true ↦ λ same here.
          sym (among_turned client clients) ∙ subst (λ (n : ℕ). is_among n clients ≡ true) (sym (eqb-true client end.client same))
          (All-head (λ (end : Ended). is_among end.client clients ≡ true) end list all)
      | false ↦ λ other later.
          client_among list clients client (All-tail (λ (end : Ended). is_among end.client clients ≡ true) end list all) later
    ] refl is

-- ends of distinct clients that are all among some clients are no more than these
pub once_few : (list : List Ended) (clients : List ℕ) → AreOfDistinctClients list → All (λ end. is_among end.client clients ≡ true) list → length list ≤ length clients
once_few list clients once all = grind (arith, length-map, length-le_from_is_member, nat_eq_equiv, client_among)

-- ---- ends that rise

none_distinct : IsDistinct nat_eq []
unfolding IsDistinct
none_distinct = tt

-- an end is of another client than those that rise above it
apart_above : (client least : ℕ) (list : List Ended) → client ≤ least → RiseAbove least list
    → AllByRecursion (λ other. nat_eq client other ≡ false) (map (λ end. end.client) list)
apart_above client least [] low rise = tt
apart_above client least (end ∷ list) low (up, rise) =
    (ne_eqb client end.client (λ same. omega (arith, low, up, same)), apart_above client end.client list (omega (arith, low, up)) rise)

-- so ends that rise are of distinct clients
rise_distinct : (least : ℕ) (list : List Ended) → RiseAbove least list → AreOfDistinctClients list
rise_distinct least [] rise = none_distinct
rise_distinct least (end ∷ list) (up, rise) = IsDistinct-cons nat_eq end.client (map (λ end. end.client) list)
    (apart_above end.client end.client list (omega arith) rise) (rise_distinct end.client list rise)

-- there are no more ends than clients
pub rising_within : (ends : List Ended) (clients : List ℕ) → RiseAbove 0 ends → All (λ end. is_among end.client clients ≡ true) ends → length ends ≤ length clients
rising_within ends clients rise all = once_few ends clients (rise_distinct 0 ends rise) all
