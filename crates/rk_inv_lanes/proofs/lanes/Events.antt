-- What an event may make of a lane, case by case: what is so after each of these is so after the event.
use Rattle.std.proofs.Common.{arith, Some, [], false, true, ℕ, ◌∷◌, ◌≡◌, ◌⊎◌}
use Rattle.rk_inv_base.proofs.Words.{Body, Called, Event, Message, Node, NumberMap, Range, Segments, World, backup_step, coordinator_notice}
use Rattle.rk_inv_base.proofs.Words.{coordinator_turn, crashed_masters, get, happened, has_crashed, insert, is_added, is_backup}
use Rattle.rk_inv_base.proofs.Words.{log_bytes_of, master_at, master_step, master_turn, quietly, rows_split, seen_in, tablet_migrated}
use Rattle.rk_inv_base.proofs.Words.{to_coordinator, with_client, with_coordinator, with_ledger, with_master, with_sends, with_split}
use Rattle.rk_inv_base.proofs.Words.{worked_at, tablet_added}
use Rattle.rk_message.specs.Wire.{without_message}
use Rattle.rk_world.specs.World.{with_crash, with_wire}

-- what the backups of a lane store, or what they store once one of them has stored something
pub record StoresMore (w : World) (backups : NumberMap Segments) : Type 0 where
  pub backup : ℕ
  pub segments : Segments
  pub there : is_backup w backup ≡ true
  pub is : backups ≡ insert w.backups backup segments

abbrev pub MayStore : World → NumberMap Segments → Type 0
MayStore w backups = (backups ≡ w.backups) ⊎ StoresMore w backups

-- something of a lane is so if an event changes nothing but, at most, what a backup stores, and after each other thing that it may come to
pub record Covers (R : World → Type 0) (w : World) (event : Event) (called : Called) : Type 0 where
  pub quiet : (backups : NumberMap Segments) → MayStore w backups → R (quietly (record w { backups = backups })).world
  -- a master that lives takes a message, or its turn
  pub steps : (number master : ℕ) (message : Message) → event ≡ Event.Deliver number → get w.wire.messages number ≡ Some message
      → message.to ≡ Node.Master master → has_crashed w master ≡ false
      → R (worked_at w master (seen_in message.body) (master_step (master_at w master) message)).world
  pub turns : (master : ℕ) → R (worked_at w master 0 (master_turn (master_at w master))).world
  -- the coordinator takes a message, or its turn
  pub hears : (message : Message) → R (to_coordinator w message).world
  pub duties : R (with_sends w (coordinator_turn w.coordinator)).world
  -- a backup answers, and a request is sent again
  pub answers : (backup : ℕ) (sender : Node) (body : Body) (backups : NumberMap Segments) → MayStore w backups
      → R (with_sends (record w { backups = backups }) (backup_step backup sender body (log_bytes_of w) called).sends).world
  pub again : (client : ℕ) (message : Message) → get w.ledger.requests client ≡ Some message → R (with_sends w (message ∷ [])).world
  -- a tablet and a client are added
  pub adds : (tablet : ℕ) (range : Range) (master : ℕ) → event ≡ Event.AddTablet tablet range master
      → R (quietly (tablet_added w tablet range master)).world
  pub comes : (client : ℕ) → event ≡ Event.AddClient client → is_added w.ledger client ≡ false
      → R (quietly (with_ledger w (with_client w.ledger client))).world
  pub forgets : (number : ℕ) → event ≡ Event.Forget number → R (quietly (with_wire w (without_message number w.wire))).world
  pub moves : (tablet to : ℕ) → R (quietly (with_coordinator w (tablet_migrated w.coordinator tablet to))).world
  -- the rows of a tablet are split, and so is the tablet if its owner lives
  pub parts : (tablet at new : ℕ) → R (quietly (with_coordinator w (rows_split w.coordinator tablet at new))).world
  pub splits : (tablet at new number master term : ℕ)
      → R (quietly (with_coordinator (with_master w master (with_split (master_at w master) number at new term))
      (rows_split w.coordinator tablet at new))).world
  pub crashes : (master : ℕ) → event ≡ Event.Crash master → R (quietly (with_crash w master)).world
  pub notices : (master : ℕ) → R (quietly (with_coordinator w (coordinator_notice w.coordinator master (crashed_masters w)))).world

module _ {R : World → Type 0} {w : World} {event : Event} {called : Called} (covers : Covers R w event called) where
  pub event_covered : R (happened w event called).world
  event_covered = grind arith
