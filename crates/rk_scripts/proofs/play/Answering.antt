-- What a replica that reports what it stores answers may come in a run: a segment has no more bytes than one may have.
use Rattle.std.proofs.Common.{◌≡◌, ◌≤◌, ◌<◌, ◌++◌, ◌∙◌, ℕ, Bool, true, false, List, [], All, length, Option, None, Some, ◌==◌, refl}
use Rattle.std.proofs.Common.{sym, ap, subst, arith, cond, length-append, eq-eqb}
use Rattle.rk_scripts.proofs.Words.{option_map_or, and_from, get, SEGMENT_BYTES, Node, Segments, NumberedBytes, Log, bytes_of, known_of}
use Rattle.rk_scripts.proofs.Words.{segment_of, segments, Body, Message, Called, called_by, IsWellFormed, limits_of, IsMaster, IsTold}
use Rattle.rk_scripts.proofs.Words.{HasRoom, World, backup_at, Event, IsSound, all_find}
use Rattle.rk_outside.specs.Segments.{bytes_of as stored_bytes, with_part}
use Rattle.rk_log.specs.Log.{IsBackup, segment_bytes}
use Rattle.rk_backup.specs.Accepts.{added}
use Rattle.rk_message.specs.declared.replication.Append.{Append}
use Rattle.rk_world.specs.Backup.{Appended, Failed, append_called, append_taken, calls_replica}
use Rattle.rk_world.specs.Limits.{IsFormedMessage, IsThere}
use Rattle.rk_world.specs.Premises.{MayCome}
use Rattle.rk_world.specs.Room.{MOST_BYTES}
use Rattle.rk_world.specs.World.{log_in}
use Rattle.rk_sound.specs.Logs.{IsFirstPart, IsFromLog, LogSays}
use Rattle.rk_inv_wellformed.proofs.bytes.Segments.{IsTold as CanBeTold, segments_told}
use Rattle.rk_inv_wellformed.proofs.lanes.Worlds.{master_of, room_at}
use Rattle.rk_inv_base.proofs.logs.BytesStored.{part_taken}
use Rattle.rk_inv_lanes.proofs.Below.{added_front}

-- ---- what a replica stores of a segment

-- each segment of a log that can be reported has no more bytes than a segment may have
segment_few : (log : Log) (number : ℕ) → All CanBeTold (segments log) → length (bytes_of log number) ≤ SEGMENT_BYTES
segment_few log number each = go (segment_of number (segments log)) refl
  where
    go : (found : Option NumberedBytes) → segment_of number (segments log) ≡ found
        → length (option_map_or (λ (segment : NumberedBytes). segment.bytes) found []) ≤ SEGMENT_BYTES
    go None is = omega arith
    go (Some segment) is = (all_find CanBeTold (λ segment. segment.number == number) (segments log) segment each is).few

-- what begins other bytes is no longer
front_few : (bytes whole : List ℕ) → IsFirstPart bytes whole → length whole ≤ SEGMENT_BYTES → length bytes ≤ SEGMENT_BYTES
front_few bytes whole front few =
    let long = ap (λ (all : List ℕ). length all) front.parts ∙ length-append bytes front.more in omega (arith, long, few)

module _ (w : World) (sound : IsSound w) (formed : IsWellFormed w) (room : HasRoom w) where
  log_few : (master segment : ℕ) → IsMaster w.coordinator.masters master → length (bytes_of (log_in w master) segment) ≤ SEGMENT_BYTES
  log_few master segment there =
      let fits = room_at w master there formed room in
      let bytes : segment_bytes (log_in w master) < MOST_BYTES = omega (arith, fits.bytes) in
      segment_few (log_in w master) segment (segments_told (log_in w master) fits.room.fits (master_of w master there formed).sides bytes)

  module _ (backup master : ℕ) (append : Append) (within : (1 ≤ backup) × (backup ≤ w.backup_count)) (there : IsMaster w.coordinator.masters master)
      (says : IsFromLog (log_in w master) (known_of (log_in w master) backup) append) where
    abbrev Stored : Segments
    Stored = backup_at w backup

    abbrev stored : List ℕ
    stored = stored_bytes (Stored master append.segment)

    known_there : IsBackup (log_in w master) backup
    known_there = let count = sound.nodes.known master there in record { first = within.0; last = omega (arith, within.1, count) }

    front : IsFirstPart stored (bytes_of (log_in w master) append.segment)
    front = ((sound.logs.each master).copies backup known_there).front append.segment

    front_then : IsFirstPart (stored ++ added append.at append.bytes stored) (bytes_of (log_in w master) append.segment)
    front_then =
        subst (λ (at : ℕ). IsFirstPart (stored ++ added at append.bytes stored) (bytes_of (log_in w master) append.segment)) says.place
        (added_front (bytes_of (log_in w master) append.segment) stored says.before append.bytes says.behind front says.bytes)

    stored_then : stored_bytes (append_taken Stored master append (Appended 0) master append.segment) ≡ stored ++ added append.at append.bytes stored
    stored_then =
        ap (λ (here : Bool). stored_bytes (cond here (with_part (Stored master append.segment) (added append.at append.bytes stored)) (Stored master append.segment)))
        (and_from (master == master) (append.segment == append.segment) (eq-eqb master master refl) (eq-eqb append.segment append.segment refl))
        ∙ part_taken (Stored master append.segment) (added append.at append.bytes stored)

    append_comes : (fault : Option ℕ) → MayCome (append_called Stored master append fault)
    append_comes None = subst (λ (bytes : List ℕ). length bytes ≤ SEGMENT_BYTES) (sym stored_then)
        (front_few (stored ++ added append.at append.bytes stored) (bytes_of (log_in w master) append.segment) front_then (log_few master append.segment there))
    append_comes (Some count) =
        elim (calls_replica (length stored) append) as (λ calls. MayCome (cond calls (Failed count) (Appended (length stored)))) [
          | true ↦ tt
          | false ↦ front_few stored (bytes_of (log_in w master) append.segment) front (log_few master append.segment there)
        ]

  -- what the backup that is called answers
  called_comes : (message : Message) (backup : ℕ) (from : Node) (body : Body) (fault : Option ℕ) → message.from ≡ from → message.body ≡ body → message.to ≡ Node.Backup backup
      → (number : ℕ) → get w.wire.messages number ≡ Some message → MayCome (called_by (backup_at w backup) from body fault)
  called_comes message backup (Node.Master master) (Body.Append append) fault from_is body_is to_is number found =
      let its : IsFormedMessage (limits_of w) message = formed.wire.each number message found in
      append_comes backup master append (subst (λ (to : Node). IsThere (limits_of w) to) to_is its.to)
      (subst (λ (from : Node). IsThere (limits_of w) from) from_is its.from)
      (says_of from_is body_is to_is (sound.logs.sent number message found)) fault
    where
      says_of : message.from ≡ Node.Master master → message.body ≡ Body.Append append → message.to ≡ Node.Backup backup
          → LogSays (log_in w) (backup_at w) message.from message.to message.body → IsFromLog (log_in w master) (known_of (log_in w master) backup) append
      says_of f b t says =
          subst (λ (from : Node). LogSays (log_in w) (backup_at w) from (Node.Backup backup) (Body.Append append)) f
          (subst (λ (to : Node). LogSays (log_in w) (backup_at w) message.from to (Body.Append append)) t
          (subst (λ (body : Body). LogSays (log_in w) (backup_at w) message.from message.to body) b says))
  called_comes message backup (Node.Master master) (Body.Read read) None from_is body_is to_is number found = tt
  called_comes message backup (Node.Master master) (Body.Read read) (Some left) from_is body_is to_is number found = tt
  called_comes message backup (Node.Master master) _ fault from_is body_is to_is number found = tt
  called_comes message backup _ body fault from_is body_is to_is number found = tt

  -- what a replica that reports what it stores answers may come
  pub told_comes : (event : Event) (called : Called) → IsTold w event called → MayCome called
  told_comes event called answer = grind (arith, called_comes, answer.told, answer.fault)
