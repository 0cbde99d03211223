-- A world that keeps to limits: what is well formed keeps to wider limits, and so do the changes of a lane, of its wire too; a world that
-- keeps to the limits that its greatest number gives it is well formed.
use Rattle.std.proofs.Common.{◌≡◌, ◌≤◌, ◌<◌, ℕ, suc, max, true, false, List, [], ◌∷◌, ◌++◌, length, map, All, Option, Some, is_some}
use Rattle.rk_inv_wellformed.proofs.Words.{length-map}
use Rattle.std.proofs.Common.{refl, subst, ◌∙◌, arith, nat_eq, unwrap_or, flat_map, length-append, ◌+◌, fold, None, slice_get, w64}
use Rattle.rk_inv_wellformed.proofs.Words.{All-push, All-weaker, list_any-append, list_any, range_with_len, each_insert, hash_of, EachIn}
use Rattle.rk_inv_wellformed.proofs.Words.{get, numbers, is_among, is_covered, Row, MOST_BACKUPS, Traffic, Message, Coordinator}
use Rattle.rk_inv_wellformed.proofs.Words.{IsFormedCoordinator, IsFormedLedger, IsFormedMaster, IsFormedWire, IsWellFormed}
use Rattle.rk_inv_wellformed.proofs.Words.{MOST_BASE_CLIENTS, last_stamp, Ledger, is_added, seen_of, IsClient, IsFormedMessage, Limits}
use Rattle.rk_inv_wellformed.proofs.Words.{limits_of, Master, log_bytes, new_master, IsMaster, MOST_MASTERS, MOST_CLIENTS, HasRoom}
use Rattle.rk_inv_wellformed.proofs.Words.{MOST_NUMBER, World, counters_of, has_crashed, master_at, standing, with_all_sent}
use Rattle.rk_inv_wellformed.proofs.Words.{with_coordinator, with_crash, with_ledger, with_master, with_top, with_wire, greatest}
use Rattle.rk_inv_wellformed.proofs.Words.{each_weaker, MOST_BYTES, All-map, in_order_insert, Answer, IsNumber, without_message, filled}
use Rattle.rk_inv_wellformed.proofs.Words.{Served, each_less, in_order_remove, remove_less, remove, Placed, with_message, Reply, cases_Bool}
use Rattle.rk_inv_wellformed.proofs.Words.{or_left, or_right, base_clients, limits_at, IsLawfulReply, filled_reply, place_of, reply_with}
use Rattle.std.proofs.lemmas.Option.{slice_get_within}
use Rattle.rk_inv_wellformed.proofs.lanes.More.{IsMore, more_coordinator, more_ledger, more_master, more_master_number, more_wire}
use Rattle.rk_inv_wellformed.proofs.maps.{all_in_map, below_greatest, within_sum_of, all_back, all_before, all_front, all_given, by_found}
use Rattle.rk_inv_wellformed.proofs.maps.{among_numbers, found_in_range, numbers_kept, all_got, fold_keeps_all}
use Rattle.rk_inv_wellformed.proofs.masters.Work.{AreLimits, HasLogRoom, HasRoomFor}
use Rattle.rk_inv_wellformed.proofs.lanes.Ledgers.{AreStamps}
use Rattle.rk_inv_wellformed.proofs.coordinator.Rows.{Cover}

-- ---- the wire

module _ (limits : Limits) where
  -- the wire after another message that is well formed
  pub wire_sent : {wire : Traffic} {message : Message} → IsFormedWire limits wire → IsFormedMessage limits message → IsFormedWire limits (with_message message wire)
  wire_sent {wire} {message} formed new = record {
    order = in_order_insert wire.messages (wire.sent + 1) message formed.order;
    numbered = each_insert (λ n other. (1 ≤ n) × (n ≤ wire.sent + 1)) wire.messages (wire.sent + 1) message
        (each_weaker (λ n other. (1 ≤ n) × (n ≤ wire.sent)) (λ n other. (1 ≤ n) × (n ≤ wire.sent + 1)) wire.messages
        (λ n other given. omega (arith, given)) formed.numbered)
        (omega arith);
    each = each_insert (λ n other. IsFormedMessage limits other) wire.messages (wire.sent + 1) message formed.each new;
  }

  -- the wire after messages that are well formed
  pub wire_of_all : (messages : List Message) {wire : Traffic} → IsFormedWire limits wire → All (IsFormedMessage limits) messages → IsFormedWire limits (fold (λ now message. with_message message now) wire messages)
  wire_of_all messages {wire} formed all = fold_keeps_all (IsFormedWire limits) (IsFormedMessage limits) (λ now message. with_message message now)
      messages wire formed all (λ now message before new. wire_sent before new)

  -- the wire after a message was forgotten
  pub wire_forgotten : {wire : Traffic} (number : ℕ) → IsFormedWire limits wire → IsFormedWire limits (without_message number wire)
  wire_forgotten {wire} number formed = grind (arith, in_order_remove, each_less, remove, remove_less)

-- ---- replies with stamps and places

-- a number that is below a number that fits
fitting : (n top : ℕ) → n ≤ top → top < MOST_NUMBER → IsNumber w64 0 n
fitting n top below room = record { least_is = omega arith; fits = omega arith }

-- a reply with stamp and place of a record is lawful, if the greatest stamp fits
filled_with : (journal : List Placed) (reply : Reply) (place : ℕ) (found : Option Placed) → slice_get journal place ≡ found → AreStamps journal → last_stamp journal < MOST_NUMBER → IsLawfulReply reply → IsLawfulReply (reply_with reply place found)
filled_with journal reply place None found are room lawful = lawful
filled_with journal reply place (Some placed) found are room lawful =
    let within = slice_get_within journal place placed found in
    let count = are.records in (
      lawful.0,
      fitting placed.stamp (last_stamp journal) (all_got (λ one. one.stamp ≤ last_stamp journal) journal place placed found are.stamps) room,
      fitting place (last_stamp journal) (omega arith) room,
      lawful.3,
    )

module _ (journal : List Placed) (served : List Served) (are : AreStamps journal) (room : last_stamp journal < MOST_NUMBER) where
  lawful_reply : (client : ℕ) (reply : Reply) (answer : Answer) → IsLawfulReply reply → IsLawfulReply (filled_reply journal served client reply answer)
  lawful_reply client reply answer lawful = grind (arith, place_of, filled_with)

  -- a message stays well formed when stamp and place are filled in
  pub formed_filled : (limits : Limits) (message : Message) → IsFormedMessage limits message → IsFormedMessage limits (filled journal served message)
  formed_filled limits message formed = grind (arith, lawful_reply, message.to, message.body, formed.lawful, message.from, formed.says)

  -- and so do all messages
  pub all_filled : (limits : Limits) (messages : List Message) → All (IsFormedMessage limits) messages → All (IsFormedMessage limits) (map (filled journal served) messages)
  all_filled limits messages all = All-map (IsFormedMessage limits) (filled journal served) messages
      (λ place other within. formed_filled limits _ (all place other within))

-- ---- limits

-- the clients of a ledger are among those of another one
abbrev pub HasClientsOf : Ledger → Ledger → Type 0
HasClientsOf later ledger = (client : ℕ) → is_added ledger client ≡ true → is_added later client ≡ true

-- a client that was added is one of the lane's
pub added_is_client : (w : World) (top client : ℕ) → is_added w.ledger client ≡ true → IsClient (limits_at w top) client
added_is_client w top client added = grind (arith, list_any-append, nat_eq, numbers, base_clients, or_left, is_among, among_numbers)

-- a lane's limits are wider with another coordinator of the same masters, a ledger that has its clients, and a greater greatest number
pub more_limits : (w : World) (coordinator : Coordinator) (ledger : Ledger) (top : ℕ) → w.coordinator.masters ≡ coordinator.masters → HasClientsOf ledger w.ledger → w.top ≤ top → IsMore (limits_of w) (limits_at (with_ledger (with_coordinator w coordinator) ledger) top)
more_limits w coordinator ledger top same has greater =
    grind (arith, list_any-append, nat_eq, numbers, base_clients, is_among, or_left, among_numbers, or_right, cases_Bool)

-- these are limits that a lane may have, if there are few clients and the greatest number fits
pub limits_with : (w : World) (coordinator : Coordinator) (ledger : Ledger) (top : ℕ) → w.coordinator.masters ≡ coordinator.masters → length ledger.clients ≤ MOST_CLIENTS → top < MOST_NUMBER → IsWellFormed w → AreLimits (limits_at (with_ledger (with_coordinator w coordinator) ledger) top)
limits_with w coordinator ledger top same few room formed = grind (arith, numbers, base_clients, length-append, length-map)

-- a lane that is well formed and has room has limits that a lane may have
pub formed_limits : (w : World) → IsWellFormed w → HasRoom w → AreLimits (limits_of w)
formed_limits w formed room = limits_with w w.coordinator w.ledger w.top refl formed.ledger.few room.number formed

-- ---- the numbers of a world

-- a limit that all numbers of a world keep to
abbrev pub IsLimit : ℕ → World → Type 0
IsLimit limit w = All (λ number. number ≤ limit) (standing w)

-- the greatest number of a lane once the numbers in it are counted is such a limit
pub top_is_limit : (w : World) → IsLimit (with_top w).top w
top_is_limit w place other within = under _ w.top (greatest (standing w)) (below_greatest (standing w) place other within)
  where
    under : (n top greatest : ℕ) → n ≤ greatest → n ≤ max top greatest
    under n top greatest below = omega arith

-- what the clients of a lane had seen when they asked
abbrev pub stamps_seen : World → List ℕ
stamps_seen w = map (λ entry. seen_of entry.1) w.ledger.clients

-- the terms of its rows
abbrev pub terms_in : World → List ℕ
terms_in w = map (λ row. row.term) w.coordinator.rows

-- the counters of all tablets
abbrev pub counters_in : World → List ℕ
counters_in w = flat_map (λ entry. counters_of entry.1) w.masters

module _ (w : World) (limit : ℕ) (all : IsLimit limit w) where
  -- how many messages were sent
  pub sent_within : w.wire.sent ≤ limit
  sent_within = all 0 0 (omega arith)

  -- the last stamp
  pub stamp_within : last_stamp w.ledger.journal ≤ limit
  stamp_within = all 1 0 (omega arith)

  from_seen : All (λ n. n ≤ limit) ((stamps_seen w ++ terms_in w) ++ counters_in w)
  from_seen place other within = all (suc (suc place)) other (omega arith)

  from_terms : All (λ n. n ≤ limit) (stamps_seen w ++ terms_in w)
  from_terms = all_front (λ (n : ℕ). n ≤ limit) (stamps_seen w ++ terms_in w) (counters_in w) from_seen

  -- what each client had seen
  pub seen_within : All (λ entry. seen_of entry.1 ≤ limit) w.ledger.clients
  seen_within = all_before (λ (n : ℕ). n ≤ limit) (λ entry. seen_of entry.1) w.ledger.clients
      (all_front (λ (n : ℕ). n ≤ limit) (stamps_seen w) (terms_in w) from_terms)

  -- the term of each row
  pub terms_within : All (λ row. row.term ≤ limit) w.coordinator.rows
  terms_within = all_before (λ (n : ℕ). n ≤ limit) (λ row. row.term) w.coordinator.rows
      (all_back (λ (n : ℕ). n ≤ limit) (stamps_seen w) (terms_in w) from_terms)

  -- the counters of a master's tablets
  pub counters_within : (number : ℕ) (master : Master) → get w.masters number ≡ Some master → All (λ n. n ≤ limit) (counters_of master)
  counters_within number master found =
      all_in_map (λ (one : Master). All (λ n. n ≤ limit) (counters_of one)) w.masters number master found
      (all_given (λ (n : ℕ). n ≤ limit) (λ (entry : ℕ × Master). counters_of entry.1) w.masters
      (all_back (λ (n : ℕ). n ≤ limit) (stamps_seen w ++ terms_in w) (counters_in w) from_seen))

-- what a master of a lane with room has fits
pub room_of_master : (w : World) (number : ℕ) (master : Master) → get w.masters number ≡ Some master → IsLimit w.top w → HasRoom w → HasRoomFor (limits_of w) master
room_of_master w number master found all room =
    let bytes : log_bytes master < MOST_BYTES = omega (arith, within_sum_of log_bytes w.masters number master found, room.bytes) in
    assumption (room.masters number master found, counters_within w w.top all number master found)

-- ---- a world that keeps to limits

-- a master is left that has not crashed
pub record SomeIsLeft (count : ℕ) (crashed : List ℕ) : Type 0 where
  pub master : ℕ
  pub there : IsMaster count master
  pub lives : list_any (λ dead. nat_eq dead master) crashed ≡ false

-- a world keeps to limits, which need not be its own: this is what a well formed lane has but for the bound on its numbers, with the
-- masters and backups counted by the limits
pub record IsFormedWorld (limits : Limits) (w : World) : Type 0 where
  pub masters_are : numbers w.masters ≡ range_with_len 1 limits.masters
  pub few_masters : limits.masters ≤ MOST_MASTERS
  pub backed : 1 ≤ limits.backups
  pub few_backups : limits.backups ≤ MOST_BACKUPS
  pub masters : EachIn (IsFormedMaster limits) w.masters
  pub coordinator : IsFormedCoordinator limits w.coordinator
  pub ledger : IsFormedLedger limits w.base w.lane w.ledger
  pub wire : IsFormedWire limits w.wire
  pub crashed : All (IsMaster limits.masters) w.crashed
  pub left : (master : ℕ) → has_crashed w master ≡ true → SomeIsLeft limits.masters w.crashed
  pub noticed : All (λ master. has_crashed w master ≡ true) w.coordinator.noticed
  pub base : All (λ item. is_covered w.coordinator.rows item.table (hash_of item.key) ≡ true) w.base.items
  pub few_base_clients : length (base_clients w.base) ≤ MOST_BASE_CLIENTS

-- a well formed lane keeps to wider limits than its own
pub formed_within : {w : World} {limits : Limits} → IsMore (limits_of w) limits → IsWellFormed w → IsFormedWorld limits w
formed_within {w} {limits} more formed =
    let left : (master : ℕ) → has_crashed w master ≡ true → SomeIsLeft limits.masters w.crashed = λ master dead.
    let some = formed.left master dead in
    record { master = some.master; there = more_master_number (limits_of w) limits more some.master some.there; lives = some.lives } in
    assumption (
      subst (λ (count : ℕ). numbers w.masters ≡ range_with_len 1 count) more.masters formed.masters_are,
      subst (λ (count : ℕ). count ≤ MOST_MASTERS) more.masters formed.few_masters,
      subst (λ (count : ℕ). 1 ≤ count) more.backups formed.backed,
      subst (λ (count : ℕ). count ≤ MOST_BACKUPS) more.backups formed.few_backups,
      each_weaker (IsFormedMaster (limits_of w)) (IsFormedMaster limits) w.masters (λ number master. more_master (limits_of w) limits more)
          formed.masters,
      more_coordinator (limits_of w) limits more formed.coordinator,
      more_ledger (limits_of w) limits more formed.ledger,
      more_wire (limits_of w) limits more formed.wire,
      All-weaker (IsMaster w.coordinator.masters) (IsMaster limits.masters) (more_master_number (limits_of w) limits more) w.crashed formed.crashed,
    )

-- a world that keeps to the limits that it has is well formed, if its greatest number bounds the numbers in it
pub formed_standing : {w : World} → IsFormedWorld (limits_of w) w → IsLimit w.top w → IsWellFormed w
formed_standing {w} kept standing = grind (arith, has_crashed)

-- so is a world that keeps to the limits that it has once the numbers in it are counted
pub formed_topped : {w : World} → IsFormedWorld (limits_of (with_top w)) w → IsWellFormed (with_top w)
formed_topped {w} kept = formed_standing {w = with_top w} (assumption) (top_is_limit w)

-- and a well formed lane keeps to its own limits
pub formed_as : {w : World} → IsWellFormed w → IsFormedWorld (limits_of w) w
formed_as {w} formed = formed_within (record { masters = refl; backups = refl; top = omega arith; clients = λ client known. known }) formed

-- rows cover what a history starts from
abbrev pub CoversBase : World → List Row → Type 0
CoversBase w rows = All (λ item. is_covered rows item.table (hash_of item.key) ≡ true) w.base.items

-- a coordinator that a lane may have: it is well formed within limits and counts the lane's masters, who was noticed has crashed,
-- and the rows cover what the history starts from
pub record MayCoordinate (limits : Limits) (w : World) (coordinator : Coordinator) : Type 0 where
  pub formed : IsFormedCoordinator limits coordinator
  pub masters : w.coordinator.masters ≡ coordinator.masters
  pub noticed : All (λ master. has_crashed w master ≡ true) coordinator.noticed
  pub base : CoversBase w coordinator.rows

-- rows that cover what was covered cover what the history starts from
pub base_covered : {w : World} (rows : List Row) → Cover rows w.coordinator.rows → IsWellFormed w → CoversBase w rows
base_covered {w} rows covers formed =
    λ place other within. covers _ _ (formed.base place other within)

module _ (limits : Limits) (w : World) (coordinator : Coordinator) where
  -- so it may if it noticed no more masters than before, and covers what was covered
  pub may_coordinate : IsFormedCoordinator limits coordinator → w.coordinator.masters ≡ coordinator.masters → coordinator.noticed ≡ w.coordinator.noticed → Cover coordinator.rows w.coordinator.rows → IsWellFormed w → MayCoordinate limits w coordinator
  may_coordinate new masters noticed covers formed = grind (arith, has_crashed, base_covered)

-- ---- changes of a world that keeps to limits

module _ (limits : Limits) (w : World) (formed : IsFormedWorld limits w) where
  -- one of its masters is so
  pub kept_with_master : {number : ℕ} {master : Master} → IsMaster limits.masters number → IsFormedMaster limits number master → IsFormedWorld limits (with_master w number master)
  kept_with_master {number} {master} there new =
      assumption (
        numbers_kept w.masters limits.masters number master formed.masters_are there ∙ formed.masters_are,
        each_insert (IsFormedMaster limits) w.masters number master formed.masters new,
      )

  -- the coordinator is so
  pub kept_with_coordinator : (coordinator : Coordinator) → MayCoordinate limits w coordinator → IsFormedWorld limits (with_coordinator w coordinator)
  kept_with_coordinator coordinator new = assumption

  -- the ledger is so
  pub kept_with_ledger : {ledger : Ledger} → IsFormedLedger limits w.base w.lane ledger → IsFormedWorld limits (with_ledger w ledger)
  kept_with_ledger {ledger} new = assumption

  -- the wire is so
  pub kept_with_wire : {wire : Traffic} → IsFormedWire limits wire → IsFormedWorld limits (with_wire w wire)
  kept_with_wire {wire} new = assumption

  -- messages are sent
  pub kept_with_all_sent : (messages : List Message) → All (IsFormedMessage limits) messages → IsFormedWorld limits (with_all_sent w messages)
  kept_with_all_sent messages all = kept_with_wire (wire_of_all limits messages formed.wire all)

  -- a master stops while another one is left
  pub kept_with_crash : {master : ℕ} → IsMaster limits.masters master → SomeIsLeft limits.masters (w.crashed ++ master ∷ []) → IsFormedWorld limits (with_crash w master)
  kept_with_crash {master} there some =
      let left : (dead : ℕ) → has_crashed (with_crash w master) dead ≡ true → SomeIsLeft limits.masters (w.crashed ++ master ∷ []) = λ dead crashed. some in
      assumption (
        All-push (IsMaster limits.masters) w.crashed master formed.crashed there,
        All-weaker (λ dead. has_crashed w dead ≡ true) (λ dead. has_crashed (with_crash w master) dead ≡ true)
            (λ dead crashed. list_any-append (λ one. nat_eq one dead) w.crashed (master ∷ []) ∙ or_left (has_crashed w dead) (list_any (λ one. nat_eq one dead) (master ∷ [])) crashed)
            w.coordinator.noticed formed.noticed,
      )

-- what each master of a well formed lane has that is there, the master of a number has
found_there : (w : World) (number : ℕ) → IsMaster w.coordinator.masters number → IsWellFormed w → (P : Option Master → Type 0)
    → ((master : Master) → get w.masters number ≡ Some master → P (Some master)) → P (get w.masters number)
found_there w number there formed P some =
    by_found (λ found. is_some found ≡ true → P found) (get w.masters number) (λ none is. absurd (cc is)) (λ master is it. some master is)
    (found_in_range w.masters formed.masters_are there)

-- a master of a well formed lane is well formed
pub master_of : (w : World) (number : ℕ) → IsMaster w.coordinator.masters number → IsWellFormed w → IsFormedMaster (limits_of w) number (master_at w number)
master_of w number there formed =
    found_there w number there formed (λ found. IsFormedMaster (limits_of w) number (unwrap_or found (new_master number []))) (formed.masters number)

-- a master of a well formed lane with room has room
pub room_at : (w : World) (number : ℕ) → IsMaster w.coordinator.masters number → IsWellFormed w → HasRoom w → HasRoomFor (limits_of w) (master_at w number)
room_at w number there formed room =
    found_there w number there formed (λ found. HasRoomFor (limits_of w) (unwrap_or found (new_master number [])))
    (λ master is. room_of_master w number master is formed.standing room)

-- a master of a lane with room has room for its log
pub log_room_at : {w : World} {number : ℕ} → IsMaster w.coordinator.masters number → IsWellFormed w → HasRoom w → HasLogRoom (master_at w number)
log_room_at {w} {number} there formed room =
    let fits = room_at w number there formed room in
    record { room = fits.room; bytes = fits.bytes }
