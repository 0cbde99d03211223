-- What a rebuild merged records nothing that is not recorded by what it read: neither its copies nor the entry that closes it.
use Rattle.std.proofs.Common.{◌≡◌, ◌≤◌, ℕ, zero, List, [], ◌∷◌, ◌++◌, map, Option, Some, None, refl, subst, ⊎_elim, arith, All, Contains}
use Rattle.std.proofs.Common.{not, flat_map}
use Rattle.rk_inv_base.proofs.Words.{cond_both, flat_map-append, All-append, All-cons, All-contains, All-filter, All-head, All-map, All-nil}
use Rattle.rk_inv_base.proofs.Words.{All-tail, All-weaker, Contains-append_left, Contains-append_right, get, insert, Ended, Held, Entry}
use Rattle.rk_inv_base.proofs.Words.{Completions, completions_from, ended_of, ends_of, is_later, noted, Completion, Handover, newest_items}
use Rattle.rk_inv_base.proofs.Words.{item_end, items_in, items_of, told, told_by, Gather, by_member, counted_of, as_entries, ends_by_place}
use Rattle.rk_inv_base.proofs.Words.{first_told, floor_by, floor_of, has_version, is_placed, merge, merged_ends, placed_ends, TellNoMore}
use Rattle.rk_inv_base.proofs.Words.{closing_carried}
use Rattle.rk_inv_tablets.proofs.Words.{contains_cases, all_by, all_flat, floor_first, All_insert, each_from_pairs}
use Rattle.rk_inv_base.proofs.logs.Floors.{floor_above}
use Rattle.rk_inv_base.proofs.logs.FloorsOf.{floor_within, one_within}
use Rattle.rk_inv_tablets.proofs.ready.OwnItems.{flat_stands}
use Rattle.rk_inv_tablets.proofs.merge.OfRange.{by_member_all, newest_stand}
use Rattle.rk_entry.specs.declared.entry.Entry.TheVariants as entries

-- an entry records nothing that these do not
pub record IsToldBy (others : List Entry) (entry : Entry) : Type 0 where
  pub items : All (Contains (items_of others)) (items_in entry)
  pub ends : All (Contains (told others)) (told_by entry)
  pub floor : floor_by 1 entry ≤ floor_of others

-- entries record nothing that others do not, if none of them does
pub all_told : (list others : List Entry) → All (IsToldBy others) list → TellNoMore list others
all_told list others each = record {
  items = λ item at.
      All-contains (Contains (items_of others)) (items_of list) item
      (all_flat (Contains (items_of others)) items_in list
      (All-weaker (IsToldBy others) (λ e. All (Contains (items_of others)) (items_in e)) (λ e its. its.items) list each)) at;
  ends =
      all_flat (Contains (told others)) told_by list
      (All-weaker (IsToldBy others) (λ e. All (Contains (told others)) (told_by e)) (λ e its. its.ends) list each);
  floor =
      floor_within (floor_of others) list (floor_first others) (λ entry at. (All-contains (IsToldBy others) list entry each at).floor);
}

-- the end of a call that left an item is recorded where the item is
pub item_told : (list : List Entry) (item : Held) → Contains (items_of list) item → Contains (told list) (item_end item)
item_told [] item at = absurd (omega (arith, at.1))
item_told (entries.Held held ∷ list) item at =
    ⊎_elim
    (λ (same : held ≡ item). subst (λ (x : Held). Contains (item_end held ∷ told list) (item_end x)) same (zero, omega arith, refl))
    (λ (behind : Contains (items_of list) item).
    Contains-append_right (item_end held ∷ []) (told list) (item_end item) (item_told list item behind))
    (contains_cases held (items_of list) item at)
item_told (entries.Refused refused ∷ list) item at =
    Contains-append_right (told_by (entries.Refused refused)) (told list) (item_end item) (item_told list item at)
item_told (entries.Carried carried ∷ list) item at = Contains-append_right carried.ends (told list) (item_end item) (item_told list item at)
item_told (entries.Joined joined ∷ list) item at = item_told list item at

-- an item that others have is recorded by them
pub held_told : (others : List Entry) (item : Held) → Contains (items_of others) item → IsToldBy others (entries.Held item)
held_told others item at = record {
  items = All-cons (Contains (items_of others)) item [] at (All-nil _);
  ends = All-cons (Contains (told others)) (item_end item) [] (item_told others item at) (All-nil _);
  floor =
      let above = floor_above others item at in
      let some = floor_first others in omega (arith, above, some);
}

-- ---- ends

module _ (P : Ended → Type 0) where
  -- the ends that have their place are among the ends
  placed_each : (all later seen ends : List Ended) → All P ends → All P (placed_ends all later seen ends)
  placed_each all later seen [] each = All-nil P
  placed_each all later seen (end ∷ ends) each =
      let rest = placed_each all later (seen ++ end ∷ []) ends (All-tail P end ends each) in
      cond_both (is_placed all later seen end) (end ∷ placed_ends all later (seen ++ end ∷ []) ends)
      (placed_ends all later (seen ++ end ∷ []) ends) (All P)
      (λ here. All-cons P end _ (All-head P end ends each) rest) (λ elsewhere. rest)

  by_place_each : (all : List Ended) (members : List (List Entry)) → All P (flat_map told members) → All P (ends_by_place all (map told members))
  by_place_each all [] each = All-nil P
  by_place_each all (list ∷ later) each =
      All-append P _ _
      (placed_each all (flat_map (λ told. told) (map told later)) [] (told list)
      (all_by P (told list) (λ end at.
      All-contains P (flat_map told (list ∷ later)) end each (Contains-append_left (told list) (flat_map told later) end at))))
      (by_place_each all later
      (all_by P (flat_map told later) (λ end at.
      All-contains P (flat_map told (list ∷ later)) end each (Contains-append_right (told list) (flat_map told later) end at))))

  -- a pair of a client and its last call
  abbrev OfPair : ℕ × Completion → Type 0
  OfPair pair = P (ended_of pair)

  -- the last ends of clients are among the ends
  completions_each : (completions : Completions) (ends : List Ended) → All OfPair completions → All P ends → All OfPair (completions_from completions ends)
  completions_each completions [] each new = each
  completions_each completions (ended ∷ later) each new =
      completions_each (noted completions ended) later
      (cond_both (is_later (get completions ended.client) ended.seq)
      (insert completions ended.client (record { seq = ended.seq; end = ended.end })) completions (All OfPair)
      (λ late. All_insert OfPair completions ended.client (record { seq = ended.seq; end = ended.end }) each (All-head P ended later new))
      (λ old. each))
      (All-tail P ended later new)

  first_each : (all : List Ended) (end : Ended) → All P all → P end → P (first_told end (get (completions_from [] all) end.client))
  first_each all end each it = go (get (completions_from [] all) end.client) refl
    where
      go : (last : Option Completion) → get (completions_from [] all) end.client ≡ last → P (first_told end last)
      go None is = it
      go (Some last) is =
          each_from_pairs (λ q thing. OfPair (q, thing)) (completions_from [] all) (completions_each [] all (All-nil OfPair) each) end.client last is

  -- so are the ends of a merge
  merged_each : (members : List (List Entry)) → All P (flat_map told members) → All P (merged_ends members)
  merged_each members each =
      All-map P (λ end. first_told end (get (completions_from [] (flat_map told members)) end.client)) _
      (All-weaker _ _ (λ end it. first_each (flat_map told members) end each it) _
      (by_place_each (flat_map told members) members each))

  -- and the last of them, client by client
  closing_each : (members : List (List Entry)) → All P (flat_map told members) → All P (ends_of (completions_from [] (merged_ends members)))
  closing_each members each =
      All-map P ended_of (completions_from [] (merged_ends members))
      (completions_each [] (merged_ends members) (All-nil OfPair) (merged_each members each))

-- ---- the piece of a rebuild

-- the ends that members record, one after the other
told_flat : (members : List (List Entry)) → flat_map told members ≡ told (flat_map (λ entries. entries) members)
told_flat [] = refl
told_flat (list ∷ later) = grind (arith, told, flat_map-append, told_by, (told_flat later))

-- what was read, member by member, in one list
abbrev pub read_all : List (List Entry) → List Entry
read_all members = flat_map (λ entries. entries) members

-- what a rebuild merged records nothing that others do not, if what it read records nothing that they do not
pub piece_told : (own : List Entry) (members : List (List Entry)) (handover : Handover) (others : List Entry) → TellNoMore (read_all members) others → All (IsToldBy others) (as_entries (merge own members).copies ++ closing_carried handover (merge own members) ∷ [])
piece_told own members handover others tells =
    All-append (IsToldBy others) (as_entries (merge own members).copies) (closing_carried handover (merge own members) ∷ [])
    (All-map (IsToldBy others) entries.Held (merge own members).copies
    (All-weaker _ _ (λ item at. held_told others item (tells.items item at)) (merge own members).copies
    (All-filter (λ item. not (has_version (items_of own) item)) (Contains (items_of (read_all members)))
    (newest_items (items_of (read_all members))) (newest_stand (items_of (read_all members))))))
    (All-cons (IsToldBy others) (closing_carried handover (merge own members)) [] closing (All-nil _))
  where
    closing : IsToldBy others (closing_carried handover (merge own members))
    closing = record {
      items = All-nil _;
      ends =
          closing_each (Contains (told others)) members
          (rw (told_flat members) tells.ends);
      floor = let low = tells.floor in let some = floor_first others in omega (arith, low, some);
    }

-- ---- entries that are among others

-- an entry that is among others is recorded by them
pub stands_told : (others : List Entry) (entry : Entry) → Contains others entry → IsToldBy others entry
stands_told others entry at = record {
  items = all_by _ (items_in entry) (λ item its. flat_stands items_in others entry item at its);
  ends = all_by _ (told_by entry) (λ end its. flat_stands told_by others entry end at its);
  floor = one_within 1 others entry (omega arith) at;
}

-- so are all of some, if others have them
pub all_stand_told : (list others : List Entry) → ((entry : Entry) → Contains list entry → Contains others entry) → All (IsToldBy others) list
all_stand_told list others more = all_by (IsToldBy others) list (λ entry at. stands_told others entry (more entry at))

-- what is recorded by entries is recorded by others, if those record no more than these
pub told_through : (list others : List Entry) (entry : Entry) → TellNoMore list others → IsToldBy list entry → IsToldBy others entry
told_through list others entry tells is = record {
  items = All-weaker (Contains (items_of list)) (Contains (items_of others)) (λ item at. tells.items item at) (items_in entry) is.items;
  ends =
      All-weaker (Contains (told list)) (Contains (told others))
      (λ end at. All-contains (Contains (told others)) (told list) end tells.ends at) (told_by entry) is.ends;
  floor = let low = tells.floor in let its = is.floor in omega (arith, low, its);
}

-- ---- what was gathered

-- if others record the own entries, and what counts of each member, they record all that was gathered
pub read_told : (others own : List Entry) (gather : Gather) → All (IsToldBy others) own → All (λ gathered. All (IsToldBy others) (counted_of gather.range gathered)) gather.members → All (IsToldBy others) (read_all (by_member gather own))
read_told others own gather of_own each = by_member_all (IsToldBy others) gather own of_own each
