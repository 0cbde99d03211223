-- What an event makes of a lane, by who takes part in it; and a lane stays well formed when a master, the coordinator or a backup has
-- worked, if its work is well formed within the limits after it.
use Rattle.std.proofs.Common.{◌≡◌, ◌≤◌, ◌<◌, ℕ, true, List, [], length, map, All, Option, None, refl, sym, subst, arith, ◌+◌, Some}
use Rattle.rk_inv_wellformed.proofs.Words.{get_same, Segments, Message, Rebuilt, Backed, Coordinator, IsFormedLedger, IsFormedMaster}
use Rattle.rk_inv_wellformed.proofs.Words.{IsWellFormed, last_stamp, Ledger, is_added, with_rebuilt, IsFormedMessage, Limits, limits_of}
use Rattle.rk_inv_wellformed.proofs.Words.{Master, IsMaster, MOST_CLIENTS, filled, HasRoom, MOST_NUMBER, Stepped, backed_at, losing}
use Rattle.rk_inv_wellformed.proofs.Words.{quietly, with_sends, worked_at, Worked, World, master_at, with_all_sent, with_coordinator}
use Rattle.rk_inv_wellformed.proofs.Words.{with_ledger, with_master, with_top, ledger_after, All-nil, NumberMap, get, Node, Called, IsThere}
use Rattle.rk_inv_wellformed.proofs.Words.{backup_step, delivered, delivered_to, log_bytes_of, seen_in, master_step, has_crashed}
use Rattle.rk_inv_wellformed.proofs.Words.{owner_split, row_split, with_split, Owned, Row, brought_by, limits_at, to_coordinator}
use Rattle.rk_inv_wellformed.specs.Brought.{brought_in, brought_to}
use Rattle.rk_inv_wellformed.proofs.lanes.Ledgers.{clients_rebuilt, clients_served, formed_ledger_after, formed_rebuilt}
use Rattle.rk_inv_wellformed.proofs.lanes.More.{IsMore, more_coordinator, more_master, more_master_number, more_messages, more_self}
use Rattle.rk_inv_wellformed.proofs.lanes.Worlds.{all_filled, HasClientsOf, IsFormedWorld, MayCoordinate, formed_topped, formed_within}
use Rattle.rk_inv_wellformed.proofs.lanes.Worlds.{kept_with_all_sent, kept_with_coordinator, kept_with_ledger, kept_with_master}
use Rattle.rk_inv_wellformed.proofs.lanes.Worlds.{limits_with, master_of, more_limits, room_of_master, stamp_within, terms_within}
use Rattle.rk_inv_wellformed.proofs.lanes.Worlds.{top_is_limit, formed_as, formed_standing}
use Rattle.rk_inv_wellformed.proofs.maps.{either_way, by_found}
use Rattle.rk_inv_wellformed.proofs.masters.Work.{AreLimits, HasRoomFor, IsFormedWork, MOST_AT_ONCE}

-- a message is delivered: it is lost or says nothing, or a master, the coordinator or a backup works; P takes how many bytes it brings
module _ (w : World) (called : Called) (formed : IsWellFormed w) (P : ℕ → World → Type 0) (loses : (bytes : ℕ) → P bytes (losing w).world)
    (works : (message : Message) (master : ℕ) → IsMaster w.coordinator.masters master → IsFormedMessage (limits_of w) message
    → P (brought_by (master_at w master) message.body) (worked_at w master (seen_in message.body) (master_step (master_at w master) message)).world)
    (coordinates : (message : Message) → IsFormedMessage (limits_of w) message → P 0 (to_coordinator w message).world)
    (backs : (message : Message) (backup : ℕ) (backups : NumberMap Segments) → IsThere (limits_of w) (Node.Backup backup)
    → IsFormedMessage (limits_of w) message
    → P 0 (backed_at (record w { backups = backups }) (backup_step backup message.from message.body (log_bytes_of w) called)).world) where
  received_is : (message : Message) (to : Node) → message.to ≡ to → IsFormedMessage (limits_of w) message
      → P (brought_to w to message.body) (delivered_to w message to called).world
  received_is message (Node.Client client) is told = loses 0
  received_is message Node.Coordinator is told = coordinates message told
  received_is message (Node.Master master) is told =
      grind (arith, either_way, brought_by, master_at, has_crashed, limits_of, message.body, told.to)
  received_is message (Node.Backup backup) is told =
      grind arith

  pub delivered_is : (number : ℕ) → P (brought_in w (get w.wire.messages number)) (delivered w (get w.wire.messages number) called).world
  delivered_is number = by_found (λ found. P (brought_in w found) (delivered w found called).world) (get w.wire.messages number) (λ none. loses 0)
      (λ message is. received_is message message.to refl (formed.wire.each number message is))

-- a tablet is split at its owner, if that is there and lives
pub split_is : (P : World → Type 0) (w : World) (found : Option Row) (at new : ℕ) → P w
    → ((row : Row) (master from : ℕ) → found ≡ Some row → row.phase ≡ Owned master from
    → P (with_master w master (with_split (master_at w master) row.tablet at new (row.term + 1))))
    → P (row_split w found at new)
split_is P w found at new stays splits = grind (arith, by_found, row_split, owner_split, either_way, has_crashed)

-- a ledger with the same clients has the clients
same_clients : (ledger later : Ledger) → later.clients ≡ ledger.clients → HasClientsOf later ledger
same_clients ledger later same client added =
    subst (λ clients. is_added (record later { clients = clients }) client ≡ true) (sym same) added

-- the greatest number does not fall
pub top_rises : (w : World) → w.top ≤ (with_top w).top
top_rises w = omega arith

-- a lane's limits with a greater greatest number are wider
pub more_topped : (w : World) (top : ℕ) → w.top ≤ top → IsMore (limits_of w) (limits_at w top)
more_topped w top up = more_limits w w.coordinator w.ledger top refl (λ client added. added) up

-- a lane stays well formed after a change that keeps to wider limits if the lane did
pub formed_after_change : {w : World} (after : World) → IsMore (limits_of w) (limits_of (with_top after))
    → (IsFormedWorld (limits_of (with_top after)) w → IsFormedWorld (limits_of (with_top after)) after) → IsWellFormed w → IsWellFormed (with_top after)
formed_after_change after more keeps formed = formed_topped (keeps (formed_within more formed))

-- ---- nothing is sent

-- a lane stays well formed when the numbers in it are counted
pub formed_losing : {w : World} → IsWellFormed w → IsWellFormed (losing w).world
formed_losing {w} formed = formed_after_change w (more_topped w (with_top w).top (top_rises w)) (λ before. before) formed

-- ---- messages are sent

-- and when messages are sent that are well formed
pub formed_sending_old : {w : World} (messages : List Message) → All (IsFormedMessage (limits_of w)) messages → IsWellFormed w → IsWellFormed (with_sends w messages).world
formed_sending_old {w} messages all formed =
    let after = with_all_sent w messages in
    let more = more_topped w (with_top after).top (top_rises after) in
    formed_after_change after more
    (λ before. kept_with_all_sent _ w before messages (more_messages (limits_of w) (limits_of (with_top after)) more messages all)) formed

-- ---- a master has worked

module _ (w : World) (number seen : ℕ) (worked : Worked) where
  -- the world after it
  abbrev pub after_work : World
  after_work = (worked_at w number seen worked).world

  -- the world with the master and the ledger after it
  abbrev now_worked : World
  now_worked = with_ledger (with_master w number worked.master) (ledger_after w.ledger number seen worked)

  -- what it sends
  abbrev filled_sends : List Message
  filled_sends = map (filled (ledger_after w.ledger number seen worked).journal worked.served) worked.sends

  same_after : (ledger_after w.ledger number seen worked).clients ≡ w.ledger.clients
  same_after = clients_served w.ledger seen worked.served

  -- its limits are wider
  pub more_worked : IsMore (limits_of w) (limits_of after_work)
  more_worked = grind (arith, more_limits, ledger_after, same_clients, same_after, top_rises, with_all_sent)

  -- and the world after it is well formed, if the work of a well formed master is within limits in which that has room
  pub formed_worked : IsMaster w.coordinator.masters number
      → (AreLimits (limits_of after_work) → IsFormedMaster (limits_of after_work) number (master_at w number)
      → HasRoomFor (limits_of after_work) worked.master → IsFormedWork (limits_of after_work) number MOST_AT_ONCE worked)
      → HasRoom after_work → IsWellFormed w → IsWellFormed after_work
  formed_worked there works room formed = formed_topped
      (kept_with_all_sent (limits_of after_work) now_worked
      (kept_with_ledger (limits_of after_work) (with_master w number worked.master)
      (kept_with_master (limits_of after_work) w before there work.master)
      ledger)
      filled_sends (all_filled (ledger_after w.ledger number seen worked).journal worked.served
      (record { stamps = ledger.stamps; records = ledger.records })
      fits (limits_of after_work) worked.sends work.sends))
    where
      before : IsFormedWorld (limits_of after_work) w
      before = formed_within more_worked formed

      limits : AreLimits (limits_of after_work)
      limits = limits_with w w.coordinator (ledger_after w.ledger number seen worked) after_work.top refl
          (subst (λ clients. length clients ≤ MOST_CLIENTS) (sym same_after) formed.ledger.few) room.number formed

      work : IsFormedWork (limits_of after_work) number MOST_AT_ONCE worked
      work = works limits (more_master (limits_of w) (limits_of after_work) more_worked (master_of w number there formed))
          (room_of_master after_work number worked.master (get_same w.masters number worked.master number refl)
          (top_is_limit (with_all_sent now_worked filled_sends)) room)

      ledger : IsFormedLedger (limits_of after_work) w.base w.lane (ledger_after w.ledger number seen worked)
      ledger = formed_ledger_after (limits_of after_work) w.base w.lane seen worked.served worked.marked before.ledger

      fits : last_stamp (ledger_after w.ledger number seen worked).journal < MOST_NUMBER
      fits =
          let last = stamp_within after_work after_work.top (top_is_limit (with_all_sent now_worked filled_sends)) in
          let room_left = room.number in
          omega arith

-- ---- the coordinator has worked

module _ (w : World) (coordinator : Coordinator) (rebuilt : Option Rebuilt) (sends : List Message) where
  -- the world with the coordinator and the ledger after it
  abbrev now_coordinated : World
  now_coordinated = with_ledger (with_coordinator w coordinator) (with_rebuilt w.ledger rebuilt)

  -- the world after it
  abbrev pub after_coordinated : World
  after_coordinated = (with_sends now_coordinated sends).world

  -- its limits are wider
  pub more_coordinated : w.coordinator.masters ≡ coordinator.masters → IsMore (limits_of w) (limits_of after_coordinated)
  more_coordinated same = grind (arith, more_limits, with_rebuilt, same_clients, clients_rebuilt, top_rises, with_all_sent)

  -- and the world after it is well formed
  pub formed_coordinated : MayCoordinate (limits_of after_coordinated) w coordinator → All (IsFormedMessage (limits_of after_coordinated)) sends → IsWellFormed w → IsWellFormed after_coordinated
  formed_coordinated new all formed =
      formed_after_change (with_all_sent now_coordinated sends) (more_coordinated new.masters)
      (λ before. kept_with_all_sent _ now_coordinated (kept_with_ledger _ (with_coordinator w coordinator)
      (kept_with_coordinator _ w before coordinator new) (formed_rebuilt _ w.base w.lane rebuilt before.ledger)) sends all)
      formed

  -- so it is if what the coordinator made is well formed within the limits before it
  pub formed_coordinated_old : MayCoordinate (limits_of w) w coordinator → All (IsFormedMessage (limits_of w)) sends → IsWellFormed w → IsWellFormed after_coordinated
  formed_coordinated_old new all formed =
      let more = more_coordinated new.masters in
      formed_coordinated (assumption (more_coordinator (limits_of w) (limits_of after_coordinated) more new.formed, new))
      (more_messages (limits_of w) (limits_of after_coordinated) more sends all) formed

-- ---- the coordinator changes, and a master may with it, as once a tablet was added or split

module _ (w : World) (coordinator : Coordinator) (formed : IsWellFormed w)
    (may : (limits : Limits) → IsMore (limits_of w) limits → MayCoordinate limits w coordinator) where
  same_masters : w.coordinator.masters ≡ coordinator.masters
  same_masters = (may (limits_of w) (more_self (limits_of w))).masters

  -- a lane stays well formed if the coordinator may be in it within all wider limits
  pub formed_by_rows : IsWellFormed (quietly (with_coordinator w coordinator)).world
  formed_by_rows = formed_coordinated w coordinator None [] (may _ (more_coordinated w coordinator None [] same_masters)) (All-nil _) formed

  -- and if a master is well formed then, once the terms of all rows are at most the greatest number
  pub formed_by_both : (number : ℕ) (master : Master) → IsMaster w.coordinator.masters number
      → ((limits : Limits) → IsMore (limits_of w) limits → All (λ row. row.term ≤ limits.top) coordinator.rows → IsFormedMaster limits number master)
      → IsWellFormed (quietly (with_coordinator (with_master w number master) coordinator)).world
  formed_by_both number master there serves =
      let now = with_coordinator (with_master w number master) coordinator in
      let limits = limits_of (with_top now) in
      let more = more_limits w coordinator w.ledger (with_top now).top same_masters (λ client added. added) (top_rises now) in
      let new = may limits more in
      formed_after_change now more
      (λ before. kept_with_coordinator limits (with_master w number master)
      (kept_with_master limits w before (more_master_number (limits_of w) limits more number there)
      (serves limits more (terms_within (with_top now) (with_top now).top (top_is_limit now))))
      coordinator (assumption new))
      formed

-- ---- a backup has worked

-- a lane stays well formed when backups store more
pub formed_with_backups : {w : World} (backups : NumberMap Segments) → IsWellFormed w → IsWellFormed (record w { backups = backups })
formed_with_backups backups formed = formed_standing (assumption (formed_as formed)) formed.standing

-- and when one answers what is well formed
pub formed_backed : {w : World} (backed : Backed) → All (IsFormedMessage (limits_of w)) backed.sends → IsWellFormed w → IsWellFormed (backed_at w backed).world
formed_backed {w} backed all formed =
    either_way (λ (stepped : Stepped). IsWellFormed stepped.world) backed.lost (formed_losing formed) (formed_sending_old backed.sends all formed)
