-- Completions: what each end has stays so when another end is noted, and the ends of completions in order rise by client.
use Rattle.std.proofs.Common.{arith, ◌≤◌, ℕ, T, All, List, [], ◌∷◌, is_lt, nat_cmp}
use Rattle.rk_inv_wellformed.proofs.Words.{cond_both, All-head, All-map, All-tail, below_all, in_order_insert, IsInOrder, insert, Ended}
use Rattle.rk_inv_wellformed.proofs.Words.{Completions, completions_from, ended_of, ends_of, noted, RiseAbove, Completion, is_later}
use Rattle.rk_inv_wellformed.proofs.maps.Lists.{all_before, either_way}
use Rattle.rk_inv_wellformed.proofs.maps.Maps.{All_insert, first, is_below, second}

-- ends are those of completions pair by pair
pub ends_from_pairs : (P : Ended → Type 0) (completions : Completions) → All (λ entry. P (ended_of entry)) completions → All P (ends_of completions)
ends_from_pairs P completions each = All-map P ended_of completions each

-- and what each end has, each pair has of its end
pub pairs_from_ends : (P : Ended → Type 0) (completions : Completions) → All P (ends_of completions) → All (λ entry. P (ended_of entry)) completions
pairs_from_ends P completions each = all_before P ended_of completions each

-- the completions stay in order when a call ended
pub noted_order : (completions : Completions) (ended : Ended) → IsInOrder completions → IsInOrder (noted completions ended)
noted_order completions ended order = grind (arith, either_way, is_later, in_order_insert)

-- each end has what it had, and the new one has
pub noted_each : (P : Ended → Type 0) (completions : Completions) (ended : Ended) → All P (ends_of completions) → P ended
    → All P (ends_of (noted completions ended))
noted_each P completions ended each new =
    let entry : Completion = record { seq = ended.seq; end = ended.end } in
    cond_both _ _ _ (λ now. All P (ends_of now))
    (λ later. ends_from_pairs P (insert completions ended.client entry)
    (All_insert (λ entry. P (ended_of entry)) completions ended.client entry (pairs_from_ends P completions each) new))
    (λ older. each)

-- and so it is for ends one after the other
pub completions_order : (completions : Completions) (ends : List Ended) → IsInOrder completions → IsInOrder (completions_from completions ends)
completions_order completions [] order = order
completions_order completions (ended ∷ later) order =
    completions_order (noted completions ended) later (noted_order completions ended order)

-- each end has what it had, if the new ones have it too
pub completions_each : (P : Ended → Type 0) (completions : Completions) (ends : List Ended) → All P (ends_of completions) → All P ends
    → All P (ends_of (completions_from completions ends))
completions_each P completions [] each new = each
completions_each P completions (ended ∷ later) each new = completions_each P (noted completions ended) later
    (noted_each P completions ended each (All-head P ended later new)) (All-tail P ended later new)

-- clients above a number that is below all rise
rise_above : (n : ℕ) (completions : Completions) → T (below_all nat_cmp n completions) → IsInOrder completions → RiseAbove n (ends_of completions)
rise_above n [] below order = tt
rise_above n (entry ∷ entries) below order = (
  is_below n entry.0 (first (is_lt (nat_cmp n entry.0)) (below_all nat_cmp n entries) below),
  rise_above entry.0 entries (first (below_all nat_cmp entry.0 entries) _ order) (second (below_all nat_cmp entry.0 entries) _ order),
)

-- the ends of completions in order rise, if clients count from 1
pub ends_rise : (completions : Completions) → IsInOrder completions → All (λ end. 1 ≤ end.client) (ends_of completions)
    → RiseAbove 0 (ends_of completions)
ends_rise [] order each = tt
ends_rise (entry ∷ entries) order each = (
  All-head (λ end. 1 ≤ end.client) (ended_of entry) (ends_of entries) each,
  rise_above entry.0 entries (first (below_all nat_cmp entry.0 entries) _ order) (second (below_all nat_cmp entry.0 entries) _ order),
)
