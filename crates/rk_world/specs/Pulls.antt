-- How a target pulls the records of a tablet from its source.
use Rattle.std.specs.Prelude.{ℕ, ◌+◌, ◌%◌, ◌==◌, ◌&&◌, Bool, if◌then◌else◌, List, [], ◌∷◌, ◌++◌, fold, length, slice_index_or, slice_set, Option, Some, None}
use Rattle.std.specs.List.{flat_map, range_with_len}
use Rattle.rk_types.specs.declared.held.Held.{Held}
use Rattle.rk_types.specs.declared.held.Token.{Token}
use Rattle.rk_types.specs.declared.node.Node.{Node}
use Rattle.rk_entry.specs.declared.lists.TheConstants.{FIRST_SIDE_SEGMENT}
use Rattle.rk_table.specs.Items.{found, is_newer, live_in, at_hash}
use Rattle.rk_table.specs.Scans.{batch_at, next_token, end}
use Rattle.rk_transfer.specs.Handover.{joined}
use Rattle.rk_transfer.specs.declared.handover.Handover.{Handover}
use Rattle.rk_priority.specs.Hashes.{no_hashes, got, is_batch}
use Rattle.rk_pull.specs.declared.batches.TheConstants.{BATCH_BYTES}
use Rattle.rk_message.specs.declared.message.Body.TheVariants as bodies
use Rattle.rk_message.specs.declared.pulling.Got.{Got}
use Rattle.rk_message.specs.declared.pulling.Pull.{Pull}
use Rattle.rk_message.specs.declared.pulling.Pulled.{Pulled}
use Rattle.rk_message.specs.declared.pulling.Want.{Want}
use Rattle.rk_world.specs.Ends.{items_of}
use Rattle.rk_world.specs.Material.{as_entries}
use Rattle.rk_world.specs.Tablet.{Tablet, Pulling, with_handover}
use Rattle.rk_world.specs.RoleTests.{is_frozen_at, is_receiving_at}
use Rattle.rk_world.specs.SideLogs.{sealed_sides}
use Rattle.rk_world.specs.Master.{Master, tablet_at, with_tablet, with_item, with_side_segment}
use Rattle.rk_world.specs.Worked.{Worked, changed, sending, from_master}
use Rattle.rk_world.specs.Waiting.{closing_entry}

-- the live items of a tablet, in scan order
abbrev pub scan_of : Master → Tablet → List Held
scan_of master tablet = live_in tablet.handover.range master.records

-- a frozen source answers a pull with the batch from its token on
abbrev pub pull_taken : Master → Node → Pull → Worked
pull_taken master sender pull =
    let tablet = tablet_at master pull.tenure.tablet in
    let items = scan_of master tablet in
    if is_frozen_at tablet pull.tenure.term
    then sending master (from_master master sender (bodies.Pulled (record {
      tenure = pull.tenure;
      token = pull.token;
      next = next_token pull.token BATCH_BYTES items;
      entries = as_entries (batch_at pull.token BATCH_BYTES items);
    })))
    else changed master

-- a frozen source answers with the live items that have the wanted hashes
abbrev pub want_taken : Master → Node → Want → Worked
want_taken master sender want =
    let tablet = tablet_at master want.tenure.tablet in
    if is_frozen_at tablet want.tenure.term
    then sending master (from_master master sender (bodies.Got (record {
      tenure = want.tenure;
      hashes = want.hashes;
      entries = as_entries (flat_map (λ hash. at_hash hash (scan_of master tablet)) want.hashes);
    })))
    else changed master

-- a worker's items with one more
abbrev pub with_pulled : Pulling → ℕ → Held → Pulling
with_pulled pulling worker item =
    record pulling { sides = slice_set pulling.sides worker (slice_index_or pulling.sides worker [] ++ item ∷ []) }

-- a tablet that pulls so
abbrev pub with_pulling : Tablet → Pulling → Tablet
with_pulling tablet pulling = record tablet { pulling = pulling }

-- an item is replayed: it goes into the records and to the worker's items
abbrev pub item_replayed : ℕ → ℕ → Master → Held → Master
item_replayed number worker master item =
    with_tablet (with_item master item) number
    (with_pulling (tablet_at master number) (with_pulled (tablet_at master number).pulling worker item))

-- an item is replayed if it is newer than what the records have of its key
abbrev pub replay_one : ℕ → ℕ → Master → Held → Master
replay_one number worker master item =
    if is_newer item (found item.table item.key master.records) then item_replayed number worker master item else master

-- items are replayed, one after the other
abbrev pub replay : Master → ℕ → ℕ → List Held → Master
replay master number worker items = fold (replay_one number worker) master items

-- the numbers of so many side segments that come next
abbrev pub next_sides : Master → ℕ → List ℕ
next_sides master count = range_with_len (FIRST_SIDE_SEGMENT + length master.log.sides) count

-- the side logs of a tablet become side segments, and the hashes that were wanted are forgotten
abbrev pub sealing : Master → ℕ → Tablet → Master
sealing master number tablet =
    let sides = sealed_sides tablet.pulling.sides in
    with_tablet (fold with_side_segment master sides) number
    (with_pulling tablet (record tablet.pulling {
      hashes = no_hashes;
      sides = [] ∷ [] ∷ [] ∷ [] ∷ [];
      sealed = next_sides master (length sides);
    }))

-- the side logs of a target are sealed, and it waits until its side segments are stored
abbrev pub joining_at : Master → ℕ → Tablet → Option Handover → Master
joining_at master number tablet None = master
joining_at master number tablet (Some handover) = with_tablet master number (with_handover tablet handover)

-- a target whose side logs are sealed has all; if there was nothing to seal, its closing entry is appended at once
abbrev pub joining_by : Master → ℕ → Tablet → List ℕ → Master
joining_by master number tablet [] =
    closing_entry master number tablet (joined tablet.handover tablet.handover.term (Some (length master.log.entries)))
joining_by master number tablet (segment ∷ more) = joining_at master number tablet (joined tablet.handover tablet.handover.term None)

-- a target that has pulled all: its side logs are sealed, and it has all
abbrev pub pulled_all : Master → ℕ → Master
pulled_all master number =
    let sealed = sealing master number (tablet_at master number) in
    joining_by sealed number (tablet_at sealed number) (tablet_at sealed number).pulling.sealed

-- a target has taken a batch: its token moves on, and one more batch is counted
abbrev pub token_passed : Master → ℕ → Token → Master
token_passed master number next =
    let tablet = tablet_at master number in
    with_tablet master number (with_pulling tablet (record tablet.pulling { token = next; batches = tablet.pulling.batches + 1 }))

-- whether two tokens are one
abbrev pub is_token : Token → Token → Bool
is_token a b = a.bucket == b.bucket && (a.skip == b.skip)

-- a target replays the batch from its token on, by the worker whose turn it is; behind the last one it has all
abbrev pub batch_taken : Master → ℕ → Pulled → Master
batch_taken master number pulled =
    let worker = (tablet_at master number).pulling.batches % 4 in
    let now = token_passed (replay master number worker (items_of pulled.entries)) number pulled.next in
    if is_token pulled.next end then pulled_all now number else now

-- a target takes a batch if it is that of its token
abbrev pub pulled_taken : Master → Pulled → Worked
pulled_taken master pulled =
    let tablet = tablet_at master pulled.tenure.tablet in
    if is_receiving_at tablet pulled.tenure.term && is_token pulled.token tablet.pulling.token
    then changed (batch_taken master pulled.tenure.tablet pulled)
    else changed master

-- the hashes that were asked for have come
abbrev pub hashes_resolved : Master → ℕ → List ℕ → Master
hashes_resolved master number hashes =
    let tablet = tablet_at master number in
    with_tablet master number (with_pulling tablet (record tablet.pulling { hashes = got tablet.pulling.hashes hashes }))

-- a target takes the items that it asked for first, if they are those of the outstanding batch
abbrev pub got_taken : Master → Got → Worked
got_taken master message =
    let tablet = tablet_at master message.tenure.tablet in
    if is_receiving_at tablet message.tenure.term && is_batch tablet.pulling.hashes.outstanding message.hashes
    then changed (hashes_resolved (replay master message.tenure.tablet 0 (items_of message.entries)) message.tenure.tablet message.hashes)
    else changed master
