-- The ends that a rebuild merges are of distinct clients: each is that of its client's greatest seq, and is with the last member
-- that records it, at its first place there. So there are no more of them than clients.
use Rattle.std.proofs.Common.{◌≡◌, ◌==◌, ◌&&◌, ℕ, true, false, nat_eq, nat_lt, List, [], ◌∷◌, ◌++◌, map, All, Option, refl, subst}
use Rattle.std.proofs.Common.{sym, ◌∙◌, arith, flat_map}
use Rattle.rk_inv_wellformed.proofs.Words.{and_parts, nat_tests, All-append, All-cons, All-head, All-map, All-nil, All-tail}
use Rattle.rk_inv_wellformed.proofs.Words.{recursion_from_All, list_any-append, list_any, get, Ended, Entry, completions_from, Completion}
use Rattle.rk_inv_wellformed.proofs.Words.{AreOfDistinctClients, told, ends_by_place, first_told, is_placed, merged_ends, placed_ends}
use Rattle.rk_inv_wellformed.proofs.Words.{cond_both, not-true, or_parts, is_outrun_by, is_same_call}
use Rattle.std.specs.List.{IsDistinct}
use Rattle.rk_inv_wellformed.proofs.maps.{all_given, by_found}

-- ---- ends of distinct clients

-- if there is no end, no client is there twice
pub none_twice : AreOfDistinctClients []
unfolding IsDistinct
none_twice = tt

-- an end is of another client than each of these
abbrev IsApartFrom : List Ended → Ended → Type 0
IsApartFrom list end = All (λ other. nat_eq end.client other.client ≡ false) list

once_more : (end : Ended) (list : List Ended) → IsApartFrom list end → AreOfDistinctClients list → AreOfDistinctClients (end ∷ list)
unfolding IsDistinct
once_more end list apart once = (
  recursion_from_All (λ client. nat_eq end.client client ≡ false) (map (λ end. end.client) list)
      (All-map (λ client. nat_eq end.client client ≡ false) (λ end. end.client) list apart),
  once,
)

-- ---- what the place of an end shows

-- an end of a list is outrun by no end that none of the list outruns
IsHeldBy : List Ended → Ended → Type 0
IsHeldBy all end = (other : Ended) → list_any (is_outrun_by other) all ≡ false → is_outrun_by other end ≡ false

each_held : (all : List Ended) → All (IsHeldBy all) all
unfolding IsHeldBy
each_held [] = All-nil _
each_held (first ∷ rest) =
    All-cons (IsHeldBy (first ∷ rest)) first rest (λ other none. (or_parts (is_outrun_by other first) (list_any (is_outrun_by other) rest) none).0)
    (λ place end within other none.
    each_held rest place end within other (or_parts (is_outrun_by other first) (list_any (is_outrun_by other) rest) none).1)

-- an end whose place is here
pub record HasPlace (all later seen : List Ended) (end : Ended) : Type 0 where
  last : list_any (is_outrun_by end) all ≡ false
  later_not : list_any (is_same_call end) later ≡ false
  seen_not : list_any (is_same_call end) seen ≡ false

has_place : (all later seen : List Ended) (end : Ended) → is_placed all later seen end ≡ true → HasPlace all later seen end
has_place all later seen end is = grind (arith, and_parts, is_outrun_by, is_same_call, or_parts, list_any-append, not-true)

-- the last end of its client, among all
record IsLast (all : List Ended) (end : Ended) : Type 0 where
  held : IsHeldBy all end
  last : list_any (is_outrun_by end) all ≡ false

clients_differ : (c d s t : ℕ) → (c == d && (s == t)) ≡ false → (c == d && nat_lt s t) ≡ false → (d == c && nat_lt t s) ≡ false → nat_eq c d ≡ false
clients_differ c d s t apart first second = grind (arith, nat_tests)

calls_turned : (c d s t : ℕ) → (c == d && (s == t)) ≡ false → (d == c && (t == s)) ≡ false
calls_turned c d s t apart = grind (arith, nat_tests)

-- the last ends of two calls are of two clients
apart_by_call : (all : List Ended) (a b : Ended) → IsLast all a → IsLast all b → is_same_call a b ≡ false → nat_eq a.client b.client ≡ false
unfolding IsHeldBy
apart_by_call all a b first second apart =
    clients_differ a.client b.client a.seq b.seq apart (second.held a first.last) (first.held b second.last)

-- ---- the ends that have their place

-- what holds of each end that has its place holds of all that are placed
pub placed_each : (P Q : Ended → Type 0) (S : List Ended → Type 0) (all later seen ends : List Ended) → S seen → ((seen : List Ended) (end : Ended) → S seen → S (seen ++ end ∷ []))
    → ((seen : List Ended) (end : Ended) → S seen → Q end → HasPlace all later seen end → P end) → All Q ends → All P (placed_ends all later seen ends)
placed_each P Q S all later seen [] start next holds each = All-nil P
placed_each P Q S all later seen (end ∷ ends) start next holds each =
    let rest = placed_each P Q S all later (seen ++ end ∷ []) ends (next seen end start) next holds (All-tail Q end ends each) in
    cond_both (is_placed all later seen end) _ _ (All P)
    (λ is. All-cons P end (placed_ends all later (seen ++ end ∷ []) ends)
    (holds seen end start (All-head Q end ends each) (has_place all later seen end is)) rest)
    (λ is. rest)

-- an end was seen: an end that is of none of the seen calls is not of its call
WasSeen : Ended → List Ended → Type 0
WasSeen end seen = (other : Ended) → list_any (is_same_call other) seen ≡ false → is_same_call other end ≡ false

seen_now : (end : Ended) (seen : List Ended) → WasSeen end (seen ++ end ∷ [])
unfolding WasSeen
seen_now end seen other none =
    let both = or_parts (list_any (is_same_call other) seen) (list_any (is_same_call other) (end ∷ []))
    (sym (list_any-append (is_same_call other) seen (end ∷ [])) ∙ none) in
    (or_parts (is_same_call other end) false both.1).0

seen_still : (end : Ended) (seen : List Ended) (next : Ended) → WasSeen end seen → WasSeen end (seen ++ next ∷ [])
unfolding WasSeen
seen_still end seen next was other none = was other (or_parts (list_any (is_same_call other) seen)
    (list_any (is_same_call other) (next ∷ [])) (sym (list_any-append (is_same_call other) seen (next ∷ [])) ∙ none)).0

-- those behind an end of the same member are of other clients
apart_behind : (all later seen ends : List Ended) (end : Ended) → IsLast all end → WasSeen end seen → All (IsHeldBy all) ends → IsApartFrom (placed_ends all later seen ends) end
unfolding WasSeen
apart_behind all later seen ends end is_last was each =
    placed_each (λ other. nat_eq end.client other.client ≡ false) (IsHeldBy all) (WasSeen end) all later seen ends was
    (λ seen next before. seen_still end seen next before)
    (λ seen other before held place.
    apart_by_call all end other is_last (record { held = held; last = place.last })
    (calls_turned other.client end.client other.seq end.seq (before other place.seen_not)))
    each

-- an end of a later member, which is not of the call of an end
record IsOther (all : List Ended) (end other : Ended) : Type 0 where
  held : IsHeldBy all other
  apart : is_same_call end other ≡ false

others_of : (all : List Ended) (end : Ended) (list : List Ended) → list_any (is_same_call end) list ≡ false → All (IsHeldBy all) list → All (IsOther all end) list
others_of all end [] none each = All-nil _
others_of all end (first ∷ rest) none each =
    let both = or_parts (is_same_call end first) (list_any (is_same_call end) rest) none in
    All-cons (IsOther all end) first rest (record { held = All-head (IsHeldBy all) first rest each; apart = both.0 })
    (others_of all end rest both.1 (All-tail (IsHeldBy all) first rest each))

-- those of later members are of other clients
apart_later : (all : List Ended) (members : List (List Ended)) (end : Ended) → IsLast all end → list_any (is_same_call end) (flat_map (λ told. told) members) ≡ false → All (All (IsHeldBy all)) members → IsApartFrom (ends_by_place all members) end
apart_later all [] end is_last none each = All-nil _
apart_later all (ends ∷ later) end is_last none each =
    let both = or_parts (list_any (is_same_call end) ends) (list_any (is_same_call end) (flat_map (λ told. told) later))
    (sym (list_any-append (is_same_call end) ends (flat_map (λ told. told) later)) ∙ none) in
    All-append (λ other. nat_eq end.client other.client ≡ false) (placed_ends all (flat_map (λ told. told) later) [] ends) (ends_by_place all later)
    (placed_each (λ other. nat_eq end.client other.client ≡ false) (IsOther all end) (λ seen. Unit {0}) all (flat_map (λ told. told) later) [] ends
    tt (λ seen next before. tt)
    (λ seen other before is_other place. apart_by_call all end other is_last (record { held = is_other.held; last = place.last }) is_other.apart)
    (others_of all end ends both.0 (All-head (All (IsHeldBy all)) ends later each)))
    (apart_later all later end is_last both.1 (All-tail (All (IsHeldBy all)) ends later each))

-- the ends of one member that have their place there, before those of later members
placed_once : (all : List Ended) (later : List (List Ended)) (seen ends : List Ended) → All (IsHeldBy all) ends → All (All (IsHeldBy all)) later
    → AreOfDistinctClients (ends_by_place all later) → AreOfDistinctClients (placed_ends all (flat_map (λ told. told) later) seen ends ++ ends_by_place all later)
placed_once all later seen [] each others once = once
placed_once all later seen (end ∷ ends) each others once =
    let told = flat_map (λ told. told) later in
    let placed = placed_ends all told (seen ++ end ∷ []) ends in
    let behind = All-tail (IsHeldBy all) end ends each in
    let rest = placed_once all later (seen ++ end ∷ []) ends behind others once in
    cond_both (is_placed all told seen end) (end ∷ placed) placed (λ (now : List Ended). AreOfDistinctClients (now ++ ends_by_place all later))
    (λ is.
    let place = has_place all told seen end is in
    let is_last : IsLast all end = record { held = All-head (IsHeldBy all) end ends each; last = place.last } in
    once_more end (placed ++ ends_by_place all later) (All-append (λ other. nat_eq end.client other.client ≡ false) placed
    (ends_by_place all later) (apart_behind all told (seen ++ end ∷ []) ends end is_last (seen_now end seen) behind)
    (apart_later all later end is_last place.later_not others))
    rest)
    (λ is. rest)

-- the ends of all members that have their place
members_once : (all : List Ended) (members : List (List Ended)) → All (All (IsHeldBy all)) members → AreOfDistinctClients (ends_by_place all members)
members_once all [] each = none_twice
members_once all (ends ∷ later) each = placed_once all later [] ends (All-head (All (IsHeldBy all)) ends later each)
    (All-tail (All (IsHeldBy all)) ends later each) (members_once all later (All-tail (All (IsHeldBy all)) ends later each))

-- ---- what a merge records

client_kept : (end : Ended) (last : Option Completion) → (first_told end last).client ≡ end.client
client_kept end last = by_found (λ found. (first_told end found).client ≡ end.client) last (λ none. refl) (λ some is. refl)

clients_kept : (change : Ended → Ended) (list : List Ended) → ((end : Ended) → (change end).client ≡ end.client) → map (λ end. end.client) (map change list) ≡ map (λ end. end.client) list
clients_kept change [] same = refl
clients_kept change (end ∷ list) same = cc (same end, clients_kept change list same)

-- the ends of a merge are of distinct clients
pub merged_once : (members : List (List Entry)) → AreOfDistinctClients (merged_ends members)
merged_once members =
    let all = flat_map told members in
    subst (IsDistinct nat_eq) (sym (clients_kept (λ end. first_told end (get (completions_from [] all) end.client))
    (ends_by_place all (map told members)) (λ end. client_kept end (get (completions_from [] all) end.client))))
    (members_once all (map told members) (All-map (All (IsHeldBy all)) told members
    (all_given (IsHeldBy all) told members (each_held all))))
