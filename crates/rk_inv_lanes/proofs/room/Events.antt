-- A sound and well formed lane with room, in which records are logged and entries fit, has room after each event that is not refused, and
-- records are logged and entries fit then.
use Rattle.std.proofs.Common.{All, Contains, List, None, Option, Some, [], ap, arith, false, flat_map, length, not, refl, subst, sym}
use Rattle.std.proofs.Common.{unwrap_or, ℕ, ⊎_elim, ◌*◌, ◌++◌, ◌+◌, ◌<◌, ◌∙◌, ◌∷◌, ◌≡◌, ◌≤◌}
use Rattle.rk_inv_base.proofs.Words.{All-contains_itself, All-filter, All-nil, All-weaker, Body, Called, Contains-append_cases}
use Rattle.rk_inv_base.proofs.Words.{Contains-append_left, Contains-append_right, Event, HasRoom, Held, IsInScanOrder, IsMaster, IsSound}
use Rattle.rk_inv_base.proofs.Words.{IsWellFormed, MOST_BYTES, Master, MayHappen, Message, Node, Session, World, accept, ask, bytes_of_logs}
use Rattle.rk_inv_base.proofs.Words.{cond-false, cond_both, delivered, delivered_to, flat_map-append, get, happened, has_crashed, is_in}
use Rattle.rk_inv_base.proofs.Words.{items_in, items_of, limits_of, log_bytes, losing, master_at, master_step, new_master, new_world}
use Rattle.rk_inv_base.proofs.Words.{order_after, order_without, refusal, seen_in, to_master, told_master, worked_at, world_visited, ⊤}
use Rattle.rk_inv_wellformed.proofs.masters.Changes.{each_with_newer}
use Rattle.rk_inv_base.proofs.views.Empty.{in_order_none}
use Rattle.rk_inv_base.proofs.views.Fresh.{each_fresh}
use Rattle.rk_inv_events.proofs.Below.{Part, accept_keeps, ask_keeps}
use Rattle.rk_world.specs.Limits.{IsThere}
use Rattle.rk_world.specs.Premises.{MayCome}
use Rattle.rk_world.specs.Room.{HasRoomIn}
use Rattle.rk_world.specs.Runs.{IsCalmEvent}
use Rattle.rk_inv_wellformed.proofs.bytes.ByteEvents.{bytes_event, logs_with, master_below}
use Rattle.rk_inv_wellformed.proofs.bytes.StepBytes.{told_bytes}
use Rattle.rk_inv_wellformed.proofs.lanes.Events.{comes_fresh}
use Rattle.rk_inv_wellformed.proofs.lanes.Worlds.{formed_limits, master_of}
use Rattle.rk_inv_wellformed.proofs.room.RoomEvents.{room_event}
use Rattle.rk_inv_wellformed.specs.Brought.{LONGEST_LEFT, brought_by, brought_in, brought_to}
use Rattle.rk_inv_wellformed.proofs.maps.Lists.{by_found}
use Rattle.rk_inv_lanes.proofs.masters.Changes.{Has, IsLasting, of_lasting}
use Rattle.rk_inv_lanes.proofs.masters.Items.{OfItems, about, step_has}
use Rattle.rk_inv_lanes.specs.room.Logged.{AreLogged, HasRecordsOf, IsLogged, logged_by}
use Rattle.rk_inv_lanes.specs.room.Replayed.{replayed_at, replayed_of}
use Rattle.rk_inv_lanes.proofs.lanes.Masters.{AllAre, IsKeptByEach, each_kept}
use Rattle.rk_inv_lanes.proofs.masters.Steps.{split_has, turn_has}
use Rattle.rk_inv_lanes.specs.room.Fits.{IsFitting}
use Rattle.rk_inv_lanes.specs.room.Kept.{IsKept}
use Rattle.rk_inv_lanes.proofs.room.Copied.{copy_logged}
use Rattle.rk_inv_lanes.proofs.room.FittingLanes.{fits_event}
use Rattle.rk_inv_lanes.proofs.room.Pulled.{replayed_logged}
use Rattle.rk_inv_lanes.proofs.room.Replays.{got_within, pulled_within}
use Rattle.rk_inv_lanes.proofs.room.Sums.{apart_bytes, records_few}

-- ---- What is logged stays so when a log grows, and records stay those of items that have something, if what is put into them has it.

-- ---- logs

-- what is in two lists is there with more between them
stands_between : (front more back : List Held) (item : Held) → Contains (front ++ back) item → Contains ((front ++ more) ++ back) item
stands_between front more back item at = ⊎_elim
    (λ (first : Contains front item). Contains-append_left (front ++ more) back item (Contains-append_left front more item first))
    (λ (last : Contains back item). Contains-append_right (front ++ more) back item last) (Contains-append_cases front back item at)

-- and with more behind them
stands_before : (front back more : List Held) (item : Held) → Contains (front ++ back) item → Contains (front ++ (back ++ more)) item
stands_before front back more item at =
    ⊎_elim (λ (first : Contains front item). Contains-append_left front (back ++ more) item first)
    (λ (last : Contains back item). Contains-append_right front (back ++ more) item (Contains-append_left back more item last))
    (Contains-append_cases front back item at)

-- all of these items are logged
abbrev pub AreAllLogged : List Held → OfItems
AreAllLogged before entries sides records = (item : Held) → Contains before item → Contains (items_of entries ++ flat_map (λ items. items) sides) item

-- they stay so, whatever is put into the records
pub logged_last : (before : List Held) → IsLasting (about (AreAllLogged before)) (λ item. ⊤)
logged_last before = record {
  appended = λ master entry all item at.
      let sides : List Held = flat_map (λ items. items) master.sides in
      rw (flat_map-append items_in master.log.entries (entry ∷ []))
      (stands_between (items_of master.log.entries) (items_of (entry ∷ [])) sides item (all item at));
  sealed = λ master items all item at.
      let own : List Held = items_of master.log.entries in
      rw (flat_map-append (λ items. items) master.sides (items ∷ []))
      (stands_before own (flat_map (λ items. items) master.sides) (flat_map (λ items. items) (items ∷ [])) item (all item at));
  put = λ master item fits all. all;
  dropped = λ master range all. all;
}

-- ---- records

-- records have no key twice, and each of their items fits
abbrev pub AreRecordsOf : (Held → Type 0) → OfItems
AreRecordsOf Fits entries sides records = IsInScanOrder records × All Fits records

-- they stay so if what is put into them fits
pub records_last : {Fits : Held → Type 0} → IsLasting (about (AreRecordsOf Fits)) Fits
records_last {Fits} = record {
  appended = λ master entry are. are;
  sealed = λ master items are. are;
  put = λ master item fits are. (order_after item master.records are.0, each_with_newer Fits item master.records are.1 fits);
  dropped = λ master range are. (order_without range master.records are.0, All-filter (λ item. not (is_in range item)) Fits master.records are.1);
}

-- ---- The masters of a lane have records of what is logged there: in a new lane, after each event, and after a client's turn or answer.

-- what a living master replays of a message is what the event replays
pub replayed_is : (w : World) (event : Event) (number master : ℕ) (message : Message) → event ≡ Event.Deliver number
    → get w.wire.messages number ≡ Some message → message.to ≡ Node.Master master → has_crashed w master ≡ false
    → replayed_at w event ≡ replayed_of (master_at w master) message.body
replayed_is w event number master message is found to lives = grind (arith, cond-false, has_crashed, master_at)

-- what is so of the log and the records of each master of a lane, crashed ones too, stays so, if what is replayed fits
event_has : (P : ℕ → OfItems) (Fits : Held → Type 0) → ((master : ℕ) → IsLasting (about (P master)) Fits) → (w : World)
    → ((master : ℕ) → All Fits (items_of (master_at w master).log.entries)) → AllAre (λ master. Has (about (P master))) w
    → (event : Event) (called : Called) → All Fits (replayed_at w event) → AllAre (λ master. Has (about (P master))) (happened w event called).world
event_has P Fits lasting w own all event called each = each_kept kept called
  where
    kept : IsKeptByEach (λ master. Has (about (P master))) w event
    kept = record {
      now = all;
      steps = λ number master message is found to lives.
          step_has (P master) Fits (lasting master) (master_at w master) message (own master)
          (subst (All Fits) (replayed_is w event number master message is found to lives) each) (all master);
      turns = λ master. turn_has (of_lasting (lasting master)) (master_at w master) (all master);
      adds = λ master tablet range. all master;
      splits = λ master tablet at new term. split_has (of_lasting (lasting master)) (master_at w master) tablet at new term (all master);
    }

-- ---- events

-- what each master of a lane has logged stays there
abbrev Kept : World → ℕ → OfItems
Kept w master = AreAllLogged (logged_by (master_at w master))

-- records of what is logged in a lane
abbrev Recorded : World → ℕ → OfItems
Recorded w master = AreRecordsOf (IsLogged w)

-- what is logged stays so at each event
pub logged_grows : (w : World) (event : Event) (called : Called) (item : Held) → IsLogged w item → IsLogged (happened w event called).world item
logged_grows w event called item logged = record {
  master = logged.master;
  stands = event_has (Kept w) (λ item. ⊤) (λ master. logged_last (logged_by (master_at w master))) w
      (λ master place none inside. tt) (λ master item at. at) event called (λ place none inside. tt)
      logged.master item logged.stands;
}

-- the items of a log are logged
its_items : (w : World) (master : ℕ) → All (IsLogged w) (items_of (master_at w master).log.entries)
its_items w master =
    let items = items_of (master_at w master).log.entries in
    All-weaker (Contains items) (IsLogged w)
    (λ item at. record {
      master = master;
      stands = Contains-append_left items (flat_map (λ items. items) (master_at w master).sides) item at;
    })
    items (All-contains_itself items)

-- after an event each master has records of what was logged before it, if what is replayed was
pub records_were_logged : (w : World) (event : Event) (called : Called) → AreLogged w → All (IsLogged w) (replayed_at w event)
    → (master : ℕ) → HasRecordsOf (IsLogged w) (master_at (happened w event called).world master)
records_were_logged w event called logged each master =
    let has = event_has (Recorded w) (IsLogged w) (λ master. records_last) w (its_items w)
    (λ master. ((logged master).ordered, (logged master).logged)) event called each master in
    record { ordered = has.0; logged = has.1 }

-- so records stay logged
pub logged_event : (w : World) (event : Event) (called : Called) → AreLogged w → All (IsLogged w) (replayed_at w event)
    → AreLogged (happened w event called).world
logged_event w event called logged each = grind (arith, happened, logged_grows, records_were_logged, master_at)

-- ---- clients

-- a lane has the masters of this one
abbrev HasThose : World → Part
HasThose w masters count backups = w.masters ≡ masters

-- so records are logged there if they are here
same_logged : (w v : World) → w.masters ≡ v.masters → AreLogged w → AreLogged v
same_logged w v same logged = grind (arith, master_at)

pub logged_asked : (w : World) (session : Session) → AreLogged w → AreLogged (world_visited w (ask w session))
logged_asked w session logged = same_logged w (world_visited w (ask w session)) (ask_keeps (HasThose w) w refl session) logged

pub logged_accepted : (w : World) (number : ℕ) (session : Session) → AreLogged w → AreLogged (world_visited w (accept w number session))
logged_accepted w number session logged =
    same_logged w (world_visited w (accept w number session)) (accept_keeps (HasThose w) w refl number session) logged

-- ---- new lanes

-- a new master has no records
pub logged_new : (lane masters backups : ℕ) → AreLogged (new_world lane masters backups)
logged_new lane masters backups master =
    let w = new_world lane masters backups in
    subst (HasRecordsOf (IsLogged w)) (sym (each_fresh lane masters backups master).is_new)
    (record { ordered = in_order_none; logged = All-nil (IsLogged w) })

-- ---- A sound and well formed lane with room, whose records are logged and entries fit, has room after each event that is not refused, and
-- records are logged and entries fit then.

-- ---- a message reaches a living master

-- a lane in which a message is on the wire for a living master
record StandsFor (w : World) (number master : ℕ) (from : Node) (body : Body) : Type 0 where
  sound : IsSound w
  formed : IsWellFormed w
  room : HasRoom w
  lives : has_crashed w master ≡ false
  there : IsMaster w.coordinator.masters master
  found : get w.wire.messages number ≡ Some (record { from = from; to = Node.Master master; body = body })
  logged : All (IsLogged w) (replayed_of (master_at w master) body)

module _ (w : World) (number master : ℕ) where
  abbrev old : Master
  old = master_at w master

  -- what a master has after a message: no more than before it, twice all logs, and an entry
  abbrev HasFew : Master → Type 0
  HasFew now = log_bytes now ≤ log_bytes old + 2 * bytes_of_logs w + LONGEST_LEFT

  module _ (from : Node) (body : Body) (stands : StandsFor w number master from body) where
    -- if the message brings nothing
    plain : brought_by old body ≡ 0 → HasFew (told_master old from body).master
    plain none =
        omega (
          arith,
          none,
          master_below w master,
          told_bytes old (omega (arith, stands.room.bytes, master_below w master)) (limits_of w) master from body
              (formed_limits w stands.formed stands.room) (master_of w master stands.there stands.formed)
              (stands.formed.wire.each number _ stands.found).says,
        )

  told_few : (from : Node) (body : Body) → StandsFor w number master from body → HasFew (told_master old from body).master
  told_few (Node.Master sender) (Body.Pulled pulled) stands = omega (arith, pulled_within master pulled stands.formed stands.logged)
  told_few (Node.Master sender) (Body.Got message) stands = omega (arith, got_within master message stands.formed stands.logged)
  told_few (Node.Backup backup) (Body.Copy copy) stands =
      grind (arith, copy_logged, apart_bytes, stands.sound, stands.formed, stands.room, stands.there, stands.lives, stands.found)
  told_few from (Body.Pulled pulled) stands = omega arith
  told_few from (Body.Got message) stands = omega arith
  told_few from (Body.Copy copy) stands = omega arith
  told_few from body stands = plain from body stands refl

-- ---- the bytes of logs

module _ (w : World) (sound : IsSound w) (formed : IsWellFormed w) (room : HasRoom w) where
  module _ (number : ℕ) (called : Called) (none : refusal w (Event.Deliver number) ≡ None) where
    abbrev after : World
    after = (happened w (Event.Deliver number) called).world

    -- a message that brings nothing
    brings_none : brought_in w (get w.wire.messages number) ≡ 0 → bytes_of_logs after < MOST_BYTES
    brings_none is = bytes_event w (Event.Deliver number) called tt none (omega (arith, is)) formed room

    master_few : (message : Message) (master : ℕ) → get w.wire.messages number ≡ Some message → message.to ≡ Node.Master master
        → bytes_of_logs (to_master w master message).world < MOST_BYTES
    master_few message master found to =
        cond_both (has_crashed w master) (losing w) (worked_at w master (seen_in message.body) (master_step (master_at w master) message))
        (λ stepped. bytes_of_logs stepped.world < MOST_BYTES) (λ gone. room.bytes)
        (λ lives.
        omega (
          arith,
          told_few w number master message.from message.body (living lives),
          logs_with w master (master_step (master_at w master) message).master formed,
          (comes_fresh w (Event.Deliver number) refl none).bytes,
        ))
      where
        there : IsMaster w.coordinator.masters master
        there = subst (λ to. IsThere (limits_of w) to) to (formed.wire.each number message found).to

        living : has_crashed w master ≡ false → StandsFor w number master message.from message.body
        living lives = record {
          sound = sound;
          formed = formed;
          room = room;
          lives = lives;
          there = there;
          found = rw (← to) found;
          logged = subst (All (IsLogged w)) (replayed_is w (Event.Deliver number) number master message refl found to lives)
              (replayed_logged w (Event.Deliver number) sound);
        }

    received_few : (message : Message) (to : Node) → get w.wire.messages number ≡ Some message → message.to ≡ to → bytes_of_logs after < MOST_BYTES
    received_few message (Node.Master master) found to =
        subst (λ (m : Option Message). bytes_of_logs (delivered w m called).world < MOST_BYTES) (sym found)
        (subst (λ (to : Node). bytes_of_logs (delivered_to w message to called).world < MOST_BYTES) (sym to) (master_few message master found to))
    received_few message other found to =
        brings_none (ap (brought_in w) found ∙ ap (λ (to : Node). brought_to w to message.body) to)

    delivered_few : bytes_of_logs after < MOST_BYTES
    delivered_few = by_found (λ found. bytes_of_logs after < MOST_BYTES) (get w.wire.messages number)
        (λ none. brings_none (ap (brought_in w) none)) (λ message is. received_few message message.to is refl)

  -- the bytes of all logs fit after each event that is not refused
  pub bytes_fit : (event : Event) (called : Called) → MayHappen w event → refusal w event ≡ None → bytes_of_logs (happened w event called).world < MOST_BYTES
  bytes_fit (Event.Deliver number) called may none = delivered_few number called none
  bytes_fit event called may none = bytes_event w event called may none (omega arith) formed room

-- ---- each event

module _ (w : World) (event : Event) (called : Called) (sound : IsSound w) (formed : IsWellFormed w) (room : HasRoom w) (kept : IsKept w)
    (may : MayHappen w event) (none : refusal w event ≡ None) where
  abbrev now : World
  now = (happened w event called).world

  -- records are logged and entries fit still
  pub kept_event : IsKept now
  kept_event = record {
    logged = logged_event w event called kept.logged (replayed_logged w event sound);
    fits = fits_event formed room kept.fits event called (bytes_fit w sound formed room event called may none);
  }

  masters_fit : (number : ℕ) (master : Master) → get now.masters number ≡ Some master → HasRoomIn master
  masters_fit number master found =
      let is : master_at now number ≡ master = ap (λ (m : Option Master). unwrap_or m (new_master number [])) found in
      let were = subst (λ (m : Master). length m.records ≤ bytes_of_logs w) is
      (records_few (master_at now number) formed (records_were_logged w event called kept.logged (replayed_logged w event sound) number)) in
      record {
        records = omega (arith, were, room.bytes);
        fits = (subst IsFitting is (kept_event.fits number)).entries;
      }

  -- and the lane has room
  pub room_left : MayCome called → IsCalmEvent w event → HasRoom now
  room_left come calm = record {
    number = room_event w event called may come calm none formed room;
    bytes = bytes_fit w sound formed room event called may none;
    masters = masters_fit;
  }
