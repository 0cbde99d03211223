-- How many bytes a master has after it took a batch, or the items that it asked for first: no more than before and what came, and an entry
-- that closes once all has come.
use Rattle.std.proofs.Common.{◌≡◌, ◌≤◌, ◌+◌, ◌%◌, ◌&&◌, ℕ, List, [], ◌∷◌, ◌++◌, fold, length, map, nat_le, sum, refl, sym, subst, ap, arith}
use Rattle.std.proofs.Common.{length-append, slice_index_or, sum_by, flat_map}
use Rattle.rk_inv_wellformed.proofs.Words.{cases_lt, sum-map, sum_by-append, sum_by-cons, in_order_insert, spelled_of, IsInOrder, NumberMap}
use Rattle.rk_inv_wellformed.proofs.Words.{get_or, Held, SEGMENT_BYTES, Token, held_spelled, spelled, Entry, found, is_newer, Got, Pulled}
use Rattle.rk_inv_wellformed.proofs.Words.{items_of, Master, log_bytes, tablet_at, unsealed_bytes, with_item, with_side_segment}
use Rattle.rk_inv_wellformed.proofs.Words.{with_tablet, as_entries, replay, token_passed, with_pulling, sealed_sides, Tablet, no_tablet}
use Rattle.rk_inv_wellformed.proofs.Words.{with_handover, joined_entry, Worked, got, is_batch, no_hashes, end, batch_taken, got_taken}
use Rattle.rk_inv_wellformed.proofs.Words.{is_token, item_replayed, joining_by, next_sides, pulled_all, pulled_taken, replay_one, sealing}
use Rattle.rk_inv_wellformed.proofs.Words.{with_pulled, is_receiving_at, with_side_item, with_appended, set_past, sum_by-set}
use Rattle.rk_entry.specs.Entries.{spelled_all}
use Rattle.rk_inv_wellformed.proofs.bytes.LogBytes.{bytes_appended, bytes_put, none_pulled}
use Rattle.rk_inv_wellformed.proofs.bytes.TurnBytes.{CLOSING_BYTES, joined_short}
use Rattle.rk_inv_wellformed.proofs.maps.{either_way}
use Rattle.rk_inv_wellformed.proofs.masters.Sealing.{items_spelled, sides_tablets, sum_pushed}
use Rattle.rk_inv_wellformed.proofs.masters.Changes.{closing_is, joining_is}

-- ---- items

-- how many bytes the entries of items have
abbrev pub items_bytes : List Held → ℕ
items_bytes items = length (spelled_all (as_entries items))

pub none_bytes : items_bytes [] ≡ 0
none_bytes = omega (arith, items_spelled [], sum-map spelled_of [])

pub first_bytes : (item : Held) (items : List Held) → items_bytes (item ∷ items) ≡ spelled_of item + items_bytes items
first_bytes item items =
    omega (arith, items_spelled, sum-map {X = Held}, sum_by-cons {X = Held})

pub last_bytes : (items : List Held) (item : Held) → items_bytes (items ++ item ∷ []) ≡ items_bytes items + spelled_of item
last_bytes items item = omega (arith, items_spelled (items ++ item ∷ []), items_spelled items, sum_pushed items item)

-- an entry before others has its bytes beside theirs
entry_bytes : (entry : Entry) (list : List Entry) → length (spelled_all (entry ∷ list)) ≡ length (spelled entry) + length (spelled_all list)
unfolding spelled_all
entry_bytes entry list = length-append (spelled entry) (flat_map spelled list)

-- the items among entries have no more bytes than the entries
pub items_few : (list : List Entry) → items_bytes (items_of list) ≤ length (spelled_all list)
items_few [] = omega arith
items_few (Entry.Held held ∷ list) = grind (arith, first_bytes, items_of, held_spelled, entry_bytes, (items_few list))
items_few (entry ∷ list) = omega (arith, items_few list, entry_bytes entry list)

-- ---- a replay

tablet_pulled : (tablet : Tablet) (worker : ℕ) (item : Held)
    → unsealed_bytes (with_pulling tablet (with_pulled tablet.pulling worker item)) ≤ unsealed_bytes tablet + spelled_of item
tablet_pulled tablet worker item = grind (arith, sum-map, sum_by-set, slice_index_or, last_bytes, set_past, cases_lt, tablet.pulling.sides)

-- a master whose tablets are in order, with no more than so many bytes
pub record HasBytes (bytes : ℕ) (master : Master) : Type 0 where
  pub order : IsInOrder master.tablets
  pub fits : log_bytes master ≤ bytes

-- one of its tablets is so, with so many bytes more than it had
pub put_has : (bytes more id : ℕ) (master : Master) (tablet : Tablet) → unsealed_bytes tablet ≤ unsealed_bytes (tablet_at master id) + more
    → HasBytes bytes master → HasBytes (bytes + more) (with_tablet master id tablet)
put_has bytes more id master tablet few has = grind (arith, in_order_insert, bytes_put)

pub more_has : (bytes more : ℕ) {master : Master} → bytes ≤ more → HasBytes bytes master → HasBytes more master
more_has bytes more no_fewer has = record { order = has.order; fits = omega (arith, no_fewer, has.fits) }

replayed_has : {bytes : ℕ} (id worker : ℕ) {master : Master} (item : Held) → HasBytes bytes master
    → HasBytes (bytes + spelled_of item) (item_replayed id worker master item)
replayed_has {bytes} id worker {master} item has = put_has bytes (spelled_of item) id (with_item master item) _
    (tablet_pulled (tablet_at master id) worker item) (record { order = has.order; fits = has.fits })

replay_one_has : {bytes : ℕ} (id worker : ℕ) {master : Master} (item : Held) → HasBytes bytes master
    → HasBytes (bytes + spelled_of item) (replay_one id worker master item)
replay_one_has {bytes} id worker {master} item has =
    either_way (HasBytes (bytes + spelled_of item)) (is_newer item (found item.table item.key master.records)) (replayed_has id worker item has)
    (more_has bytes (bytes + spelled_of item) (omega arith) has)

replay_has : (bytes id worker : ℕ) (items : List Held) (master : Master) → HasBytes bytes master
    → HasBytes (bytes + items_bytes items) (replay master id worker items)
replay_has bytes id worker [] master has = more_has bytes (bytes + items_bytes []) (omega arith) has
replay_has bytes id worker (item ∷ items) master has = more_has (bytes + spelled_of item + items_bytes items)
    (bytes + items_bytes (item ∷ items)) (omega (arith, first_bytes item items))
    (replay_has (bytes + spelled_of item) id worker items (replay_one id worker master item) (replay_one_has id worker item has))

-- a tablet that pulls on has the items that it had
pub same_has : (bytes id : ℕ) (master : Master) (tablet : Tablet) → unsealed_bytes tablet ≡ unsealed_bytes (tablet_at master id)
    → HasBytes bytes master → HasBytes bytes (with_tablet master id tablet)
same_has bytes id master tablet same has =
    more_has (bytes + 0) bytes (omega arith) (put_has bytes 0 id master tablet (omega (arith, same)) has)

-- ---- side segments

-- an item more in the side segments
placed_bytes : (pieces : List (List Held)) (item : Held)
    → sum_by items_bytes (with_side_item pieces item) ≤ sum_by items_bytes pieces + spelled_of item
placed_bytes [] item = omega (arith, sum_by-cons items_bytes (item ∷ []) [], first_bytes item [], none_bytes)
placed_bytes (items ∷ []) item =
    either_way (λ (pieces : List (List Held)). sum_by items_bytes pieces ≤ sum_by items_bytes (items ∷ []) + spelled_of item)
    (nat_le (sum (map spelled_of items) + spelled_of item) SEGMENT_BYTES)
    (omega (arith, sum_by-cons items_bytes (items ++ item ∷ []) [], sum_by-cons items_bytes items [], last_bytes items item))
    (omega (arith, sum_by-cons {X = List Held}, first_bytes item [], none_bytes))
placed_bytes (items ∷ next ∷ more) item =
    omega (arith, placed_bytes (next ∷ more) item, sum_by-cons {X = List Held})

cut_from_bytes : (items : List Held) (pieces : List (List Held))
    → sum_by items_bytes (fold with_side_item pieces items) ≤ sum_by items_bytes pieces + items_bytes items
cut_from_bytes [] pieces = omega arith
cut_from_bytes (item ∷ items) pieces =
    omega (arith, cut_from_bytes items (with_side_item pieces item), placed_bytes pieces item, first_bytes item items)

-- sealing makes no bytes
sealed_bytes : (sides : List (List Held)) → sum_by items_bytes (sealed_sides sides) ≤ sum_by items_bytes sides
sealed_bytes [] = omega arith
sealed_bytes (side ∷ sides) =
    omega (arith, sealed_bytes sides, cut_from_bytes side [], sum_by-append {X = List Held}, sum_by-cons {X = List Held})

-- side segments have the bytes of their items
sides_bytes : (pieces : List (List Held)) (master : Master)
    → log_bytes (fold with_side_segment master pieces) ≡ log_bytes master + sum_by items_bytes pieces
sides_bytes [] master = omega arith
sides_bytes (items ∷ pieces) master =
    omega (arith, sides_bytes pieces (with_side_segment master items), sum_by-append {X = List ℕ}, sum_by-cons {X = List ℕ}, sum_by-cons {X = List Held})

-- ---- a target that has all

joining_has : {bytes : ℕ} (id : ℕ) (master : Master) (tablet : Tablet) (numbers : List ℕ) → unsealed_bytes tablet ≡ unsealed_bytes (tablet_at master id)
    → tablet.pulling.sealed ≡ numbers
    → HasBytes bytes master → HasBytes (bytes + CLOSING_BYTES) (joining_by master id tablet numbers)
joining_has {bytes} id master tablet [] same none has =
    closing_is (HasBytes (bytes + CLOSING_BYTES)) master id tablet (more_has bytes (bytes + CLOSING_BYTES) (omega arith) has) (length master.log.entries)
    (λ r is.
    let now = with_tablet master id (with_handover tablet (record tablet.handover { role = r })) in
    let put = same_has bytes id master (with_handover tablet (record tablet.handover { role = r })) same has in
    let fits : log_bytes (with_appended now (joined_entry tablet)) ≤ bytes + CLOSING_BYTES =
    omega (arith, put.fits, bytes_appended now (joined_entry tablet), joined_short tablet, ap (λ (list : List ℕ). length list) none) in
    assumption put)
joining_has {bytes} id master tablet (number ∷ numbers) same is has =
    more_has bytes (bytes + CLOSING_BYTES) (omega arith) (joining_is (HasBytes bytes) master id tablet has
    (λ r joins. same_has bytes id master (with_handover tablet (record tablet.handover { role = r })) same has))

module _ (bytes id : ℕ) (master : Master) (has : HasBytes bytes master) where
  abbrev it : Tablet
  it = tablet_at master id

  abbrev pieces : List (List Held)
  pieces = sealed_sides it.pulling.sides

  abbrev now : Master
  now = fold with_side_segment master pieces

  abbrev sealed : Master
  sealed = sealing master id it

  tablets_same : now.tablets ≡ master.tablets
  tablets_same = sides_tablets pieces master

  sides_order : IsInOrder now.tablets
  sides_order = subst (λ (tablets : NumberMap Tablet). IsInOrder tablets) (sym tablets_same) has.order

  -- the tablet whose side logs are sealed
  abbrev new : Tablet
  new =
      with_pulling it (record it.pulling { hashes = no_hashes; sides = [] ∷ [] ∷ [] ∷ [] ∷ []; sealed = next_sides master (length pieces) })

  sealed_has : HasBytes bytes sealed
  sealed_has = record {
    order = in_order_insert now.tablets id new sides_order;
    fits =
        omega (
          arith,
          has.fits,
          bytes_put now id new sides_order,
          none_pulled [] refl,
          ap (λ (tablets : NumberMap Tablet). unsealed_bytes (get_or no_tablet tablets id)) tablets_same,
          sides_bytes pieces master,
          sealed_bytes it.pulling.sides,
          sum-map items_bytes it.pulling.sides,
        );
  }

  -- a target that has all
  all_has : HasBytes (bytes + CLOSING_BYTES) (pulled_all master id)
  all_has = joining_has id sealed (tablet_at sealed id) (tablet_at sealed id).pulling.sealed refl refl sealed_has

-- ---- what a target takes

passed_has : {bytes : ℕ} (id : ℕ) {master : Master} (next : Token) → HasBytes bytes master → HasBytes bytes (token_passed master id next)
passed_has {bytes} id {master} next has = same_has bytes id master _ refl has

batch_has : (id : ℕ) (master : Master) (pulled : Pulled) → IsInOrder master.tablets
    → HasBytes (log_bytes master + length (spelled_all pulled.entries) + CLOSING_BYTES) (batch_taken master id pulled)
batch_has id master pulled order =
    let items = items_of pulled.entries in
    let worker = (tablet_at master id).pulling.batches % 4 in
    let most = log_bytes master + length (spelled_all pulled.entries) in
    let now = token_passed (replay master id worker items) id pulled.next in
    let replayed = replay_has (log_bytes master) id worker items master (record { order = order; fits = omega arith }) in
    let few : log_bytes master + items_bytes items ≤ most = omega (arith, items_few pulled.entries) in
    let passed = passed_has id pulled.next (more_has (log_bytes master + items_bytes items) most few replayed) in
    either_way (HasBytes (most + CLOSING_BYTES)) (is_token pulled.next end) (all_has most id now passed)
    (more_has most (most + CLOSING_BYTES) (omega arith) passed)

-- after a Pulled a master has no more bytes than before and its entries, and an entry that closes
pub pulled_bytes : (master : Master) (pulled : Pulled) → IsInOrder master.tablets
    → log_bytes (pulled_taken master pulled).master ≤ log_bytes master + length (spelled_all pulled.entries) + CLOSING_BYTES
pulled_bytes master pulled order =
    let it = tablet_at master pulled.tenure.tablet in
    either_way (λ (worked : Worked). log_bytes worked.master ≤ log_bytes master + length (spelled_all pulled.entries) + CLOSING_BYTES)
    (is_receiving_at it pulled.tenure.term && is_token pulled.token it.pulling.token)
    (batch_has pulled.tenure.tablet master pulled order).fits (omega arith)

-- after a Got no more than before and its entries
pub got_bytes : (master : Master) (message : Got) → IsInOrder master.tablets
    → log_bytes (got_taken master message).master ≤ log_bytes master + length (spelled_all message.entries)
got_bytes master message order =
    let id = message.tenure.tablet in
    let it = tablet_at master id in
    let items = items_of message.entries in
    let now = replay master id 0 items in
    let replayed = replay_has (log_bytes master) id 0 items master (record { order = order; fits = omega arith }) in
    let resolved = same_has (log_bytes master + items_bytes items) id now
    (with_pulling (tablet_at now id) (record (tablet_at now id).pulling { hashes = got (tablet_at now id).pulling.hashes message.hashes })) refl replayed in
    either_way (λ (worked : Worked). log_bytes worked.master ≤ log_bytes master + length (spelled_all message.entries))
    (is_receiving_at it message.tenure.term && is_batch it.pulling.hashes.outstanding message.hashes)
    (omega (arith, resolved.fits, items_few message.entries)) (omega arith)
