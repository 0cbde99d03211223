-- What a master replays is logged: it comes with a Pulled or a Got of a source, and what counts of a member of a lineage are entries of its
-- log and items of its side segments.
use Rattle.std.proofs.Common.{All, Contains, List, Some, [], arith, drop, false, flat_map, nat_lt, slice_index_or, suc, true, zero, ℕ}
use Rattle.std.proofs.Common.{⊎_elim, ◌++◌, ◌-◌, ◌∷◌, ◌≡◌}
use Rattle.rk_inv_base.proofs.Words.{BATCH_BYTES, Body, Contains-append_cases, Contains-append_left, Contains-append_right, Entry, Event}
use Rattle.rk_inv_base.proofs.Words.{FIRST_SIDE_SEGMENT, Got, Held, IsSound, Mark, Member, Node, Pulled, Range, Row, View, World}
use Rattle.rk_inv_base.proofs.Words.{applied_entries, as_entries, at_hash, batch_at, cond_both, counting, counts, get, has_crashed}
use Rattle.rk_inv_base.proofs.Words.{is_receiving_at, items_in, items_of, log_material, member_truth, named, none_stands, side_entries}
use Rattle.rk_inv_base.proofs.Words.{source_items, tablet_in, unmarked_from, view, written_in}
use Rattle.rk_inv_base.proofs.pulls.Joining.{scanned}
use Rattle.rk_inv_wellformed.proofs.masters.Pulls.{items_again}
use Rattle.rk_inv_events.proofs.pulls.Targets.{as_target, batch_stands, got_are, of_some_hash}
use Rattle.rk_inv_lanes.specs.room.Logged.{IsLogged}
use Rattle.rk_inv_lanes.specs.room.Replayed.{replayed_at, replayed_to}
use Rattle.rk_inv_events.proofs.pulls.Batches.{pulled_are}
use Rattle.rk_inv_events.proofs.Words.{all_by, by_found, filter_from, first_stand, flat_among, from_flat, later_stands, to_flat}
use Rattle.rk_inv_events.proofs.Words.{unmarked_stood}

-- ---- what counts of a log

-- the items of all side segments
abbrev all_sides : List (List Held) → List Held
all_sides sides = flat_map (λ items. items) sides

-- what one of the side segments has is among the items of all
side_among : (sides : List (List Held)) (k : ℕ) (item : Held) → Contains (slice_index_or sides k []) item → Contains (all_sides sides) item
side_among [] k item at = absurd (none_stands item at)
side_among (side ∷ sides) zero item at = Contains-append_left side (all_sides sides) item at
side_among (side ∷ sides) (suc k) item at = Contains-append_right side (all_sides sides) item (side_among sides k item at)

-- and so is what the entries of one are
side_items : (sides : List (List Held)) (number : ℕ) (item : Held) → Contains (items_of (side_entries sides number)) item → Contains (all_sides sides) item
side_items sides number item =
    let side : List Held = slice_index_or sides (number - FIRST_SIDE_SEGMENT) [] in
    cond_both (nat_lt number FIRST_SIDE_SEGMENT) [] (as_entries side) (λ list. Contains (items_of list) item → Contains (all_sides sides) item)
    (λ e at. absurd (none_stands item at))
    (λ e at. side_among sides (number - FIRST_SIDE_SEGMENT) item (rw (← (items_again side)) at))

module _ (range : Range) (marks : List Mark) (sides : List (List Held)) (from : ℕ) (list : List Entry) where
  abbrev free : List Entry
  free = unmarked_from marks from list

  -- an entry without a mark is in the log
  free_stood : (entry : Entry) → Contains free entry → Contains list entry
  free_stood entry at = later_stands 0 from list entry (omega arith) (unmarked_stood marks from (drop from list) entry at)

  -- so an item that counts is an entry of it, or is in a side segment
  material_items : (item : Held) → Contains (items_of (log_material range marks sides from list)) item → Contains (items_of list ++ all_sides sides) item
  material_items item at =
      let numbers : List ℕ = named range free in
      let of = from_flat items_in (log_material range marks sides from list) item at in
      ⊎_elim
      (λ (main : Contains (counting range free) of.0).
      Contains-append_left (items_of list) (all_sides sides) item
      (to_flat items_in list of.0 item (free_stood of.0 (filter_from (counts range) free of.0 main)) of.2))
      (λ (side : Contains (counting range (flat_map (side_entries sides) numbers)) of.0).
      let found = from_flat (side_entries sides) numbers of.0 (filter_from (counts range) (flat_map (side_entries sides) numbers) of.0 side) in
      Contains-append_right (items_of list) (all_sides sides) item
      (side_items sides found.0 item (to_flat items_in (side_entries sides found.0) of.0 item found.2 of.2)))
      (Contains-append_cases (counting range free) (counting range (flat_map (side_entries sides) numbers)) of.0 of.1)

-- ---- what counts of a member

-- what counts of what is applied at a member of a lineage is logged
pub truth_logged : {w : World} (range : Range) (member : Member) {item : Held}
    → Contains (items_of (member_truth (written_in w) range member)) item → IsLogged w item
truth_logged {w} range member {item} at =
    let written = written_in w member.master in
    let first : List Entry = applied_entries written in
    record {
      master = member.master;
      stands = ⊎_elim
          (λ (main : Contains (items_of first) item).
          Contains-append_left (items_of written.entries) (all_sides written.sides) item
          (flat_among items_in first written.entries (first_stand 0 written.applied written.entries) item main))
          (λ (side : Contains (all_sides written.sides) item). Contains-append_right (items_of written.entries) (all_sides written.sides) item side)
          (Contains-append_cases (items_of first) (all_sides written.sides) item
          (material_items range written.marks written.sides member.from first item at));
    }

-- ---- what a target replays

module _ (w : World) (sound : IsSound w) (number master : ℕ) (from : Node) (lives : has_crashed w master ≡ false) where
  abbrev v : View
  v = view w

  -- the message is on the wire
  abbrev Stands : Body → Type 0
  Stands body = get w.wire.messages number ≡ Some (record { from = from; to = Node.Master master; body = body })

  -- what the source of a row has for it is logged
  source_logged : (row : Row) (source : Member) {item : Held} → Contains (source_items v row source) item → IsLogged w item
  source_logged row source {item} at = truth_logged row.range source (scanned (member_truth v.written row.range source) item at)

  -- a Pulled has a batch of its source
  pulled_logged : (pulled : Pulled) → Stands (Body.Pulled pulled) → is_receiving_at (tablet_in w master pulled.tenure.tablet) pulled.tenure.term ≡ true
      → All (IsLogged w) (items_of pulled.entries)
  pulled_logged pulled there receives =
      let its = as_target w sound master pulled.tenure lives receives in
      rw (pulled_are w number master from pulled sound lives receives there).0
      (all_by (IsLogged w) (batch_at pulled.token BATCH_BYTES (source_items v its.row its.source))
      (λ item at. source_logged its.row its.source (batch_stands (member_truth v.written its.row.range its.source) pulled.token item at)))

  -- and a Got what its source has of some hashes
  got_logged : (message : Got) → Stands (Body.Got message) → is_receiving_at (tablet_in w master message.tenure.tablet) message.tenure.term ≡ true
      → All (IsLogged w) (items_of message.entries)
  got_logged message there receives =
      let its = as_target w sound master message.tenure lives receives in
      let items : List Held = source_items v its.row its.source in
      rw (got_are w number master from message sound lives receives there)
      (all_by (IsLogged w) (flat_map (λ hash. at_hash hash items) message.hashes)
      (λ item at. source_logged its.row its.source (of_some_hash items message.hashes item at)))

-- ---- events

module _ (w : World) (sound : IsSound w) (number : ℕ) where
  -- what its receiver replays of a message is logged
  to_node : (from to : Node) (body : Body) → get w.wire.messages number ≡ Some (record { from = from; to = to; body = body })
      → All (IsLogged w) (replayed_to w to body)
  to_node from to body there =
      grind (arith, pulled_logged, got_logged)

-- in a sound lane what is replayed when an event happens is logged
pub replayed_logged : (w : World) (event : Event) → IsSound w → All (IsLogged w) (replayed_at w event)
replayed_logged w event sound = grind (arith, by_found, to_node)
