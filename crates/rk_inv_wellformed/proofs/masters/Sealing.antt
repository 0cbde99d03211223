-- A target that replays what it pulled stays well formed; and a target that has pulled all seals its side logs: the side segments that it
-- makes are well formed, and so is the master then.
use Rattle.std.proofs.Common.{◌≡◌, ◌≤◌, ◌<◌, ◌+◌, ◌%◌, ◌&&◌, ℕ, Bool, false, true, List, [], ◌∷◌, ◌++◌, fold, map, sum, All, length}
use Rattle.std.proofs.Common.{length-append, None, refl, ap, subst, sym, arith, w64, nat_eq, ne_eqb, leb-true, length-set, ◌∙◌}
use Rattle.std.proofs.Common.{slice_index_or}
use Rattle.rk_inv_wellformed.proofs.Words.{cond_both, length_push, All-append, All-cons, All-head, All-nil, All-push, All-tail}
use Rattle.rk_inv_wellformed.proofs.Words.{length-range_with_len, sum-map, sum_by-cons, range_with_len, Held, SEGMENT_BYTES, held_spelled}
use Rattle.rk_inv_wellformed.proofs.Words.{IsNumber, Role, IsLawfulToken, Got, Pulled, items_of, IsFormedMaster, IsFormedPulling}
use Rattle.rk_inv_wellformed.proofs.Words.{IsFormedTablet, side_waits, IsFormedHeld, Limits, Master, tablet_at, with_side_segment}
use Rattle.rk_inv_wellformed.proofs.Words.{as_entries, replay, token_passed, with_pulling, is_receiving, sealed_sides, Pulling, Tablet}
use Rattle.rk_inv_wellformed.proofs.Words.{closing_entry, Hashes, got, is_batch, no_hashes, end, AreSideSegments, batch_taken, got_taken}
use Rattle.rk_inv_wellformed.proofs.Words.{hashes_resolved, is_token, joining_at, joining_by, next_sides, pulled_all, pulled_taken, sealing}
use Rattle.rk_inv_wellformed.proofs.Words.{is_receiving_at, cut_items, with_side_item, Entry, All-set, Token, found, is_newer, with_tablet}
use Rattle.rk_inv_wellformed.proofs.Words.{item_replayed, replay_one, with_pulled, spelled_all, length-le-bytes, spelled_none}
use Rattle.std.proofs.lemmas.List.FromFn.{get_or-range_with_len}
use Rattle.std.proofs.lemmas.Map.Keys.{IsDistinct-from_apart}
use Rattle.std.specs.List.{IsDistinct}
use Rattle.rk_types.specs.Held.{spelled_of}
use Rattle.rk_inv_wellformed.proofs.bytes.Bytes.{spelled_cons}
use Rattle.rk_inv_wellformed.proofs.bytes.EntryBytes.{held_fits, FitsSegment}
use Rattle.rk_inv_wellformed.proofs.maps.{range_within, all_given, by_found, either_way, all_at, all_flat, fold_keeps, fold_keeps_all}
use Rattle.rk_inv_wellformed.proofs.masters.Changes.{formed_with_side_segment, formed_with_tablet, formed_with_waiting, formed_with_item}
use Rattle.rk_inv_wellformed.proofs.masters.Changes.{tablet_there, closing_is, formed_closed, joining_is}
use Rattle.rk_inv_wellformed.proofs.masters.Tablets.{formed_with_handover, formed_with_pulling, handover_of, tablet_with_same}
use Rattle.rk_inv_wellformed.proofs.masters.Tablets.{formed_in_role, receiving_waits, waits_few, waits_inserted, WaitsForNone, none_waits}
use Rattle.rk_inv_wellformed.proofs.masters.Tablets.{role_there}
use Rattle.rk_inv_wellformed.proofs.masters.Work.{AreLimits, HasRoomFor, IsFormedWork, formed_changed, WorkFits}

-- a worker's items with one more
formed_with_pulled : {limits : Limits} {pulling : Pulling} (worker : ℕ) {item : Held} → IsFormedPulling limits pulling → IsFormedHeld limits item → IsFormedPulling limits (with_pulled pulling worker item)
formed_with_pulled {limits} {pulling} worker {item} formed new =
    let sides = all_given (IsFormedHeld limits) (λ items. items) pulling.sides formed.items in
    let now = slice_index_or pulling.sides worker [] ++ item ∷ [] in
    assumption (
      length-set pulling.sides worker now ∙ formed.workers,
      all_flat (IsFormedHeld limits) (λ items. items) _
          (All-set (All (IsFormedHeld limits)) pulling.sides worker now
          (All-push (IsFormedHeld limits) (slice_index_or pulling.sides worker []) item
          (all_at (All (IsFormedHeld limits)) pulling.sides worker [] (All-nil _) sides) new)
          sides),
      formed,
    )

-- a master, and one of its tablets, that are well formed, if that tablet waits for no side segment
pub record IsFormedAt (limits : Limits) (number id : ℕ) (master : Master) : Type 0 where
  pub master_is : IsFormedMaster limits number master
  pub tablet_is : IsFormedTablet limits id (tablet_at master id)
  pub waits : WaitsForNone (tablet_at master id).handover.role

-- a master with another state of a tablet
pub formed_put : {limits : Limits} {number id : ℕ} {master : Master} {tablet : Tablet} → IsFormedMaster limits number master
    → IsFormedTablet limits id tablet
    → WaitsForNone tablet.handover.role → IsFormedAt limits number id (with_tablet master id tablet)
formed_put {limits} {id} {master} {tablet} formed new none = record {
  master_is = formed_with_tablet formed new (none_waits tablet.handover.role _ _ none);
  tablet_is = subst (IsFormedTablet limits id) (sym (tablet_with_same master id tablet)) new;
  waits = subst (λ (t : Tablet). WaitsForNone t.handover.role) (sym (tablet_with_same master id tablet)) none;
}

-- an item is replayed
formed_replayed : {limits : Limits} {number id : ℕ} (worker : ℕ) {master : Master} {item : Held} → IsFormedAt limits number id master → IsFormedHeld limits item → IsFormedAt limits number id (item_replayed id worker master item)
formed_replayed {id} worker {master} {item} formed new = formed_put (formed_with_item formed.master_is new)
    (formed_with_pulling (with_pulled (tablet_at master id).pulling worker item) formed.tablet_is
    (formed_with_pulled worker formed.tablet_is.pulled new) formed.tablet_is.source)
    formed.waits

-- items are replayed if they are newer, one after the other
pub formed_replay : {limits : Limits} {number id : ℕ} (worker : ℕ) (items : List Held) {master : Master} → IsFormedAt limits number id master → All (IsFormedHeld limits) items → IsFormedAt limits number id (replay master id worker items)
formed_replay {limits} {number} {id} worker items {master} formed new =
    fold_keeps_all (IsFormedAt limits number id) (IsFormedHeld limits) (replay_one id worker) items master formed new
    (λ now item before held. either_way (IsFormedAt limits number id) (is_newer item (found item.table item.key now.records))
    (formed_replayed worker before held) before)

-- a target has taken a batch
pub formed_passed : {limits : Limits} {number id : ℕ} {master : Master} (next : Token) → IsLawfulToken next → IsFormedAt limits number id master → IsFormedAt limits number id (token_passed master id next)
formed_passed {id} {master} next token formed =
    let it = tablet_at master id in
    let pulled = formed.tablet_is.pulled in
    formed_put formed.master_is
    (formed_with_pulling (record it.pulling { token = next; batches = it.pulling.batches + 1 })
    formed.tablet_is
    (assumption)
    formed.tablet_is.source)
    formed.waits

-- ---- how long items are spelled

-- items take what each of them takes
pub items_spelled : (items : List Held) → length (spelled_all (as_entries items)) ≡ sum (map spelled_of items)
items_spelled [] = ap (λ (l : List ℕ). length l) spelled_none
items_spelled (item ∷ items) =
    omega (arith, ap (λ (l : List ℕ). length l) (spelled_cons (Entry.Held item) (as_entries items)), length-append {A = ℕ}, held_spelled, items_spelled items, sum-map {X = Held}, sum_by-cons {X = Held})

pub sum_pushed : (items : List Held) (item : Held) → sum (map spelled_of (items ++ item ∷ [])) ≡ sum (map spelled_of items) + spelled_of item
sum_pushed [] item = omega (arith, sum-map spelled_of (item ∷ []), sum_by-cons spelled_of item [], sum-map spelled_of [])
sum_pushed (first ∷ items) item =
    omega (arith, sum_pushed items item, sum-map {X = Held}, sum_by-cons {X = Held})

pub item_some : (item : Held) → 1 ≤ spelled_of item
unfolding spelled_of
item_some item = omega arith

-- ---- the items of side segments

-- the items of a side segment: it has one, and they fit
record IsPiece (limits : Limits) (items : List Held) : Type 0 where
  each : All (IsFormedHeld limits) items
  some : 1 ≤ sum (map spelled_of items)
  few : sum (map spelled_of items) ≤ SEGMENT_BYTES

piece_alone : {limits : Limits} {item : Held} → IsFormedHeld limits item → IsPiece limits (item ∷ [])
piece_alone {limits} {item} formed = grind (arith, item_some, sum_pushed, held_fits, held_spelled, sum-map)

piece_more : {limits : Limits} {items : List Held} {item : Held} → IsFormedHeld limits item → sum (map spelled_of items) + spelled_of item ≤ SEGMENT_BYTES → IsPiece limits items → IsPiece limits (items ++ item ∷ [])
piece_more {limits} {items} {item} formed fits piece = record {
  each = All-push (IsFormedHeld limits) items item piece.each formed;
  some = omega (arith, piece.some, sum_pushed items item);
  few = omega (arith, fits, sum_pushed items item);
}

pieces_more : {limits : Limits} (pieces : List (List Held)) {item : Held} → IsFormedHeld limits item → All (IsPiece limits) pieces → All (IsPiece limits) (with_side_item pieces item)
pieces_more {limits} [] {item} formed all = All-cons (IsPiece limits) (item ∷ []) [] (piece_alone formed) (All-nil _)
pieces_more {limits} (items ∷ []) {item} formed all = cond_both _ _ _ (All (IsPiece limits))
    (λ fits. All-cons (IsPiece limits) (items ++ item ∷ []) []
    (piece_more formed (leb-true (sum (map spelled_of items) + spelled_of item) SEGMENT_BYTES fits) (All-head (IsPiece limits) items [] all))
    (All-nil _))
    (λ beyond. All-cons (IsPiece limits) items ((item ∷ []) ∷ []) (All-head (IsPiece limits) items [] all)
    (All-cons (IsPiece limits) (item ∷ []) [] (piece_alone formed) (All-nil _)))
pieces_more {limits} (items ∷ next ∷ more) {item} formed all =
    All-cons (IsPiece limits) items (with_side_item (next ∷ more) item) (All-head (IsPiece limits) items (next ∷ more) all)
    (pieces_more (next ∷ more) formed (All-tail (IsPiece limits) items (next ∷ more) all))

pieces_sealed : (limits : Limits) (sides : List (List Held)) → All (All (IsFormedHeld limits)) sides → All (IsPiece limits) (sealed_sides sides)
pieces_sealed limits [] all = All-nil _
pieces_sealed limits (side ∷ sides) all = All-append (IsPiece limits) (cut_items side) (sealed_sides sides)
    (fold_keeps_all (All (IsPiece limits)) (IsFormedHeld limits) with_side_item side [] (All-nil _) (All-head (All (IsFormedHeld limits)) side sides all)
    (λ pieces item all new. pieces_more pieces new all))
    (pieces_sealed limits sides (All-tail (All (IsFormedHeld limits)) side sides all))

-- a master with side segments of such items
formed_with_sides : {limits : Limits} {number : ℕ} (pieces : List (List Held)) {master : Master} → All (IsPiece limits) pieces → IsFormedMaster limits number master → IsFormedMaster limits number (fold with_side_segment master pieces)
formed_with_sides {limits} {number} pieces {master} all formed =
    fold_keeps_all (IsFormedMaster limits number) (IsPiece limits) with_side_segment pieces master formed all
    (λ now items before piece. formed_with_side_segment items before (omega (arith, piece, items_spelled items)) piece.each)

-- ---- the numbers of side segments

numbers_distinct : (first count : ℕ) → IsDistinct nat_eq (range_with_len first count)
numbers_distinct first count = IsDistinct-from_apart nat_eq (range_with_len first count) (λ i j d before within.
    let below : j < count = omega (arith, within, length-range_with_len first count) in
    let lower : slice_index_or (range_with_len first count) i d ≡ first + i = get_or-range_with_len first count i d (omega (arith, before, below)) in
    let upper : slice_index_or (range_with_len first count) j d ≡ first + j = get_or-range_with_len first count j d below in
    ne_eqb _ _ (λ same. omega (arith, same, before, lower, upper)))

sides_counted : (pieces : List (List Held)) (master : Master) → length (fold with_side_segment master pieces).log.sides ≡ length master.log.sides + length pieces
sides_counted [] master = omega arith
sides_counted (items ∷ pieces) master =
    omega (arith, sides_counted pieces (with_side_segment master items), length_push master.log.sides (spelled_all (as_entries items)))

-- side segments leave the tablets as they are
pub sides_tablets : (pieces : List (List Held)) (master : Master) → (fold with_side_segment master pieces).tablets ≡ master.tablets
sides_tablets pieces master =
    fold_keeps (λ (now : Master). now.tablets ≡ master.tablets) with_side_segment pieces master refl (λ now items same. same)

-- ---- a target that has pulled all

-- what a target keeps while it waits for its side segments
abbrev sealed_pulling : Pulling → List ℕ → Pulling
sealed_pulling pulling numbers = record pulling { hashes = no_hashes; sides = [] ∷ [] ∷ [] ∷ [] ∷ []; sealed = numbers }

joined_sides : (master : Master) (id : ℕ) (tablet : Tablet) (numbers : List ℕ) → (joining_by master id tablet numbers).log.sides ≡ master.log.sides
joined_sides master id tablet numbers = grind (arith, by_found, closing_entry, joining_at)

-- a target joins, if there are side segments enough for what it waits for then
formed_joining : {limits : Limits} {number id : ℕ} {master : Master} {tablet : Tablet} (numbers : List ℕ) → AreLimits limits
    → IsFormedMaster limits number master → IsFormedTablet limits id tablet
    → tablet.pulling.sealed ≡ numbers → side_waits master.tablets + length numbers ≤ length master.log.sides
    → HasRoomFor limits (joining_by master id tablet numbers) → IsFormedMaster limits number (joining_by master id tablet numbers)
formed_joining {limits} {number} {id} {master} {tablet} [] are formed it is few room =
    closing_is (λ now. All FitsSegment now.log.entries → IsFormedMaster limits number now) master id tablet (λ fits. formed)
    (length master.log.entries) (λ r joins fits. formed_closed r joins are formed it fits) room.room.fits
formed_joining {limits} {number} {id} {master} {tablet} (first ∷ numbers) are formed it sealed_is few room =
    joining_is (IsFormedMaster limits number) master id tablet formed
    (λ r joins. formed_with_waiting formed
    (formed_with_handover it (formed_in_role r (Role.Joining None) joins refl refl (handover_of it)))
    (omega (arith, few, waits_few r tablet.pulling.sealed, ap (λ (list : List ℕ). length list) sealed_is)))

module _ (limits : Limits) (number id : ℕ) (master : Master) where
  abbrev it : Tablet
  it = tablet_at master id

  abbrev pieces : List (List Held)
  pieces = sealed_sides it.pulling.sides

  abbrev now : Master
  now = fold with_side_segment master pieces

  abbrev numbers : List ℕ
  numbers = next_sides master (length pieces)

  abbrev sealed : Master
  sealed = sealing master id it

  now_formed : IsFormedAt limits number id master → IsFormedMaster limits number now
  now_formed formed = formed_with_sides pieces (pieces_sealed limits it.pulling.sides
      (all_given (IsFormedHeld limits) (λ items. items) it.pulling.sides formed.tablet_is.pulled.items))
      formed.master_is

  numbers_formed : IsFormedAt limits number id master → HasRoomFor limits (pulled_all master id) → AreSideSegments numbers
  numbers_formed formed room =
      grind (arith, length-le-bytes, now_formed, sides_counted, numbers_distinct, range_within)

  -- the side segments that it waits for then are new ones
  sealed_few : IsFormedAt limits number id master
      → side_waits sealed.tablets + length (tablet_at sealed id).pulling.sealed ≤ length sealed.log.sides
  sealed_few formed =
      grind (arith, with_pulling, waits_inserted, sides_tablets, side_waits, tablet_with_same, length-range_with_len, sides_counted)

  -- a target that has pulled all
  pub formed_pulled_all : AreLimits limits → IsFormedAt limits number id master → HasRoomFor limits (pulled_all master id) → IsFormedMaster limits number (pulled_all master id)
  formed_pulled_all are formed room =
      let put = formed_put (now_formed formed)
      (formed_with_pulling (sealed_pulling it.pulling numbers) formed.tablet_is
      (assumption (numbers_formed formed room, formed.tablet_is.pulled, All-nil (IsNumber w64 0), All-nil (IsFormedHeld limits)))
      formed.tablet_is.source)
      formed.waits in
      formed_joining (tablet_at sealed id).pulling.sealed are put.master_is put.tablet_is refl (sealed_few formed) room

-- ---- a target that takes a batch, or what it asked for first

-- of two tests that hold the first does
pub first_holds : (a b : Bool) → (a && b) ≡ true → a ≡ true
first_holds true b is = refl
first_holds false b is = is

-- a master and its tablet that pulls
formed_pulling : {limits : Limits} {number : ℕ} (id : ℕ) {master : Master} (term : ℕ) → is_receiving_at (tablet_at master id) term ≡ true → IsFormedMaster limits number master → IsFormedAt limits number id master
formed_pulling id {master} term is formed = record {
  master_is = formed;
  tablet_is = tablet_there id (role_there is_receiving refl (tablet_at master id).handover.role _ is) formed;
  waits = receiving_waits (tablet_at master id).handover.role (first_holds _ _ is);
}

-- once a batch was replayed the token moves on
pub formed_batch : {limits : Limits} {number : ℕ} {master : Master} (pulled : Pulled)
    → is_receiving_at (tablet_at master pulled.tenure.tablet) pulled.tenure.term ≡ true → IsLawfulToken pulled.next
    → All (IsFormedHeld limits) (items_of pulled.entries) → IsFormedMaster limits number master
    → IsFormedAt limits number pulled.tenure.tablet (token_passed (replay master pulled.tenure.tablet ((tablet_at master pulled.tenure.tablet).pulling.batches % 4) (items_of pulled.entries)) pulled.tenure.tablet pulled.next)
formed_batch {master} pulled is token items formed =
    formed_passed pulled.next token (formed_replay ((tablet_at master pulled.tenure.tablet).pulling.batches % 4) (items_of pulled.entries)
    (formed_pulling pulled.tenure.tablet pulled.tenure.term is formed) items)

-- a master that takes a Pulled
pub formed_pulled : {limits : Limits} {number : ℕ} {master : Master} (pulled : Pulled) → AreLimits limits → IsLawfulToken pulled.next → All (IsFormedHeld limits) (items_of pulled.entries) → IsFormedMaster limits number master → WorkFits limits number 1 (pulled_taken master pulled)
formed_pulled {limits} {number} {master} pulled are token items formed room =
    cond_both _ _ _ (WorkFits limits number 1) (λ is fits. formed_changed (takes (first_holds _ _ is) fits)) (λ other fits. formed_changed formed) room
  where
    id : ℕ
    id = pulled.tenure.tablet

    takes : is_receiving_at (tablet_at master id) pulled.tenure.term ≡ true → HasRoomFor limits (batch_taken master id pulled)
        → IsFormedMaster limits number (batch_taken master id pulled)
    takes is fits =
        let passed = formed_batch pulled is token items formed in
        cond_both (is_token pulled.next end) _ _ (λ (after : Master). HasRoomFor limits after → IsFormedMaster limits number after)
        (λ last fits. formed_pulled_all limits number id _ are passed fits) (λ more fits. passed.master_is) fits

-- the hashes that are left once a batch has come
got_wanted : (hashes : Hashes) (given : List ℕ) → All (IsNumber w64 0) hashes.wanted → All (IsNumber w64 0) (got hashes given).wanted
got_wanted hashes given all = cond_both _ _ _ (λ (h : Hashes). All (IsNumber w64 0) h.wanted) (λ is. all) (λ other. all)

got_outstanding : (hashes : Hashes) (given : List ℕ) → All (IsNumber w64 0) hashes.outstanding → All (IsNumber w64 0) (got hashes given).outstanding
got_outstanding hashes given all = grind (arith, cond_both, is_batch, w64)

-- the hashes that were asked for have come
formed_resolved : {limits : Limits} {number id : ℕ} {master : Master} (hashes : List ℕ) → IsFormedAt limits number id master → IsFormedMaster limits number (hashes_resolved master id hashes)
formed_resolved {id} {master} hashes formed =
    let pulling = (tablet_at master id).pulling in
    let pulled = formed.tablet_is.pulled in
    formed_with_tablet formed.master_is
    (formed_with_pulling (record pulling { hashes = got pulling.hashes hashes }) formed.tablet_is
    (assumption (got_wanted pulling.hashes hashes pulled.wanted, got_outstanding pulling.hashes hashes pulled.outstanding))
    formed.tablet_is.source)
    (omega arith)

-- a master that takes a Got
pub formed_got : {limits : Limits} {number : ℕ} {master : Master} (message : Got) → All (IsFormedHeld limits) (items_of message.entries) → IsFormedMaster limits number master → IsFormedWork limits number 1 (got_taken master message)
formed_got {limits} {number} {master} message items formed = cond_both _ _ _ (IsFormedWork limits number 1)
    (λ is. formed_changed (formed_resolved message.hashes (formed_replay 0 (items_of message.entries)
    (formed_pulling message.tenure.tablet message.tenure.term (first_holds _ _ is) formed) items)))
    (λ other. formed_changed formed)
