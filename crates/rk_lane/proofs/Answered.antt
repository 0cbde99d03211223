-- A backup took a message: what it answered, and what its replica reports then.
use Rattle.rk_lane.proofs.Words.{arith, ◌≡◌, ◌≤◌, ◌-◌, ℕ, Bool, true, cond, List, [], ◌∷◌, length, Option, None, Some, IfSome, Result, Ok}
use Rattle.rk_lane.proofs.Words.{Err, refl, sym, ap, subst, ◌∙◌, ⊤, Node, Segments, WhereTold, Lost, number_of, replica_of, BackupLane}
use Rattle.rk_lane.proofs.Words.{Body, Message, Backed, Called, Appended, Failed, Gave, backup_step, called_by, failing, stored_after}
use Rattle.rk_lane.proofs.Words.{IsBackedAt, IsBackedBy, IsSpared, IsUnanswered, IsUnansweredAt, sending, IsAnswerOf}
use Rattle.std.proofs.Common.{slice_set}
use Rattle.std.specs.Prelude.{IfErr, IsErrAnd}
use Rattle.rk_types.specs.declared.held.TheConstants.{SEGMENT_BYTES}
use Rattle.rk_types.specs.declared.node.Node.TheVariants as nodes
use Rattle.rk_outside.specs.Losses.{HasLossCause}
use Rattle.rk_outside.specs.Segments.{IsSame, bytes_of, lengths_of}
use Rattle.rk_outside.specs.declared.replica.Lost.TheVariants as losses
use Rattle.rk_backup_node.specs.Called.{IsBacked, IsCopied, IsReadOf, append_called}
use Rattle.rk_message.specs.declared.message.Body.TheVariants as bodies
use Rattle.rk_message.specs.declared.rebuilding.ReadSegment.{ReadSegment}
use Rattle.rk_message.specs.declared.replication.Append.{Append}
use Rattle.rk_world.specs.Backup.{append_step, append_taken, calls_replica, idle, read_step}
use Rattle.rk_lane.specs.Backing.{IsWithinSegment}

-- who answered was spared
pub spared_by : {R : Type 0} (segments : R → Option Segments) (faults : R → ℕ) (old new : BackupLane R) (from : Node) (body : Body) (log : ℕ → ℕ → List ℕ) (sends : List Message)
    → IsBackedBy segments faults old new from body log (sending sends) → IsSpared faults old new
spared_by segments faults old new from body log sends by = grind (arith, by.number, by.fine, by.lost)

-- ---- it is asked nothing

-- a message of this sender asks nothing of a backup
abbrev pub AsksNothing : Node → Body → Type 0
AsksNothing (nodes.Master master) (bodies.Append append) = ⊥
AsksNothing (nodes.Master master) (bodies.Read wanted) = ⊥
AsksNothing _ _ = ⊤

-- none but a master asks something
pub asks_nothing : (from : Node) (body : Body) → ((master : ℕ) → from ≡ nodes.Master master → ⊥) → AsksNothing from body
asks_nothing (nodes.Master master) body apart = absurd (apart master refl)
asks_nothing _ body apart = tt

-- and it asks something by an Append or a Read alone
pub asks_neither : (master : ℕ) (body : Body) → ((append : Append) → body ≡ bodies.Append append → ⊥) → ((wanted : ReadSegment) → body ≡ bodies.Read wanted → ⊥)
    → AsksNothing (nodes.Master master) body
asks_neither master body other another = grind arith

-- it answers nothing then, stores what it stored, and calls no replica
record IsIdle (from : Node) (body : Body) : Type 0 where
  is : (number : ℕ) (log : ℕ → ℕ → List ℕ) → idle ≡ backup_step number from body log (Gave None)
  stored : (stored : Segments) → stored ≡ stored_after stored from body (Gave None)
  called : (stored : Segments) → Gave None ≡ called_by stored from body None

idle_at : (from : Node) (body : Body) → AsksNothing from body → IsIdle from body
idle_at from body asks = grind arith

idle_told : (from : Node) (body : Body) (told : Option Segments) → AsksNothing from body → WhereTold (λ before now. now ≡ stored_after before from body (Gave None)) told told
idle_told from body None asks = tt
idle_told from body (Some stored) asks = (idle_at from body asks).stored stored

idle_given : (from : Node) (body : Body) (told : Option Segments) → AsksNothing from body → IfSome told (λ stored. IsAnswerOf (called_by stored from body) (Gave None))
idle_given from body None asks = tt
idle_given from body (Some stored) asks = record { fine = λ fine. (idle_at from body asks).called stored; failed = λ failed. absurd failed }

-- it is as it was
pub idle_backed : {R : Type 0} (segments : R → Option Segments) (faults : R → ℕ) (it : BackupLane R) (from : Node) (body : Body) (log : ℕ → ℕ → List ℕ) (sends : List Message)
    → AsksNothing from body → sends ≡ [] → IsBackedBy segments faults it it from body log (sending sends)
idle_backed segments faults it from body log sends asks none = record {
  called = Gave None;
  may = tt;
  answer = ap sending none ∙ (idle_at from body asks).is (number_of it) log;
  told = idle_told from body (segments (replica_of it)) asks;
  given = idle_given from body (segments (replica_of it)) asks;
  number = refl;
  lost = λ failed. absurd failed;
  failed = λ failed. absurd failed;
  fine = λ fine. refl;
}

-- ---- it took an Append

-- what it reports then is what the call came to
append_given : (master : ℕ) (append : Append) (after : ℕ) (old new : Option Segments) → WhereTold (λ before now. now ≡ append_taken before master append (Appended after)) old new
    → IfSome new (λ told. after ≡ lengths_of told master append.segment)
    → IfSome old (λ stored. IsAnswerOf (called_by stored (nodes.Master master) (bodies.Append append)) (Appended after))
append_given master append after old new told is = grind arith

-- if it failed, the replica was asked, and stored so much
fault_given : (master : ℕ) (append : Append) (before after : ℕ) (old : Option Segments) → calls_replica before append ≡ true
    → IfSome old (λ told. before ≡ lengths_of told master append.segment)
    → IfSome old (λ stored. IsAnswerOf (called_by stored (nodes.Master master) (bodies.Append append)) (Failed (after - before)))
fault_given master append before after None asked is = tt
fault_given master append before after (Some stored) asked is = record {
  fine = λ fine. absurd (fine tt);
  failed = λ failed. (
    after - before,
    sym
        (ap
        (λ (b : Bool). cond b (Failed (after - before)) (Appended (length (bytes_of (stored master append.segment)))))
        (ap (λ (count : ℕ). calls_replica count append) (sym is) ∙ asked)),
  );
}

-- a message that reports what is stored reports no more than a segment
within_segment : (number master : ℕ) (append : Append) (after : ℕ) (message : Message) → append_step number master append (Appended after) ≡ sending (message ∷ []) → IsWithinSegment message.body
    → after ≤ SEGMENT_BYTES
within_segment number master append after message is within = grind arith

module _ {R : Type 0} (segments : R → Option Segments) (faults : R → ℕ) (old new : BackupLane R) (master : ℕ) (append : Append) (before after : ℕ) (log : ℕ → ℕ → List ℕ)
    (number : number_of new ≡ number_of old) where
  -- what its replica reports then, by what it answered
  abbrev pub IsStoredBy : Result Message Lost → Type 0
  IsStoredBy result =
      WhereTold (λ told now. now ≡ append_taken told master append (append_called result before after)) (segments (replica_of old)) (segments (replica_of new))

  -- it reports how much is stored
  pub append_backed : (message : Message) → IsBacked (append_step (number_of old) master append (append_called {T = Message} (Ok message) before after)) (Ok message)
      → IsStoredBy (Ok message) → IfSome (segments (replica_of new)) (λ told. after ≡ lengths_of told master append.segment)
      → HasLossCause {T = Message} (faults (replica_of old)) (faults (replica_of new)) (Ok message) → IsWithinSegment message.body
      → IsBackedBy segments faults old new (nodes.Master master) (bodies.Append append) log (sending (message ∷ []))
  append_backed message backed told is cause within = record {
    called = Appended after;
    may = within_segment (number_of old) master append after message backed within;
    answer = sym backed;
    told = told;
    given = append_given master append after (segments (replica_of old)) (segments (replica_of new)) told is;
    number = number;
    lost = λ failed. absurd failed;
    failed = λ failed. absurd failed;
    fine = λ fine. cause.kept (λ never. cc never);
  }

  -- its replica failed
  pub append_failed : IsStoredBy (Err losses.Failed) → calls_replica before append ≡ true → IfSome (segments (replica_of old)) (λ told. before ≡ lengths_of told master append.segment)
      → HasLossCause {T = Message} (faults (replica_of old)) (faults (replica_of new)) (Err losses.Failed)
      → IsBackedBy segments faults old new (nodes.Master master) (bodies.Append append) log failing
  append_failed told asked is cause = record {
    called = append_called {T = Message} (Err losses.Failed) before after;
    may = tt;
    answer = refl;
    told = told;
    given = fault_given master append before after (segments (replica_of old)) asked is;
    number = number;
    lost = λ failed. refl;
    failed = λ failed. cause.failed refl;
    fine = λ fine. absurd (fine tt);
  }

-- ---- it took a Read

-- reported segments stay at a read
read_told : (master : ℕ) (wanted : ReadSegment) (called : Called) (old new : Option Segments) → WhereTold IsSame old new
    → WhereTold (λ before now. now ≡ stored_after before (nodes.Master master) (bodies.Read wanted) called) old new
read_told master wanted called old new told = grind arith

-- a read that did not fail gave what is stored
read_given : (master : ℕ) (wanted : ReadSegment) (called : Called) (old : Option Segments) → IfSome old (λ stored. IsReadOf stored wanted called)
    → IfSome old (λ stored. IsAnswerOf (called_by stored (nodes.Master master) (bodies.Read wanted)) called)
read_given master wanted called old is = grind arith

-- the logs of all masters have the segment that is read
in_logs : (number reader : ℕ) (wanted : ReadSegment) (bytes : List ℕ) (log : ℕ → ℕ → List ℕ) (called : Called) → log wanted.master wanted.segment ≡ bytes
    → read_step number reader wanted (λ master segment. bytes) called ≡ read_step number reader wanted log called
in_logs number reader wanted bytes log called is = grind arith

module _ {R : Type 0} (segments : R → Option Segments) (faults : R → ℕ) (old new : BackupLane R) (reader : ℕ) (wanted : ReadSegment) (bytes : List ℕ) (log : ℕ → ℕ → List ℕ)
    (in_log : log wanted.master wanted.segment ≡ bytes) (number : number_of new ≡ number_of old)
    (same : WhereTold IsSame (segments (replica_of old)) (segments (replica_of new))) where
  -- its replica failed
  pub read_failed : IsCopied (number_of old) reader wanted bytes (segments (replica_of old)) (Err losses.Failed)
      → HasLossCause {T = Message} (faults (replica_of old)) (faults (replica_of new)) (Err losses.Failed)
      → IsBackedBy segments faults old new (nodes.Master reader) (bodies.Read wanted) log failing
  read_failed copied cause = grind (arith, number_of, in_logs, read_told, replica_of, read_given)

-- ---- why it sent nothing

-- what holds of a cause holds of the error that is handed on
pub handed_on : {T E : Type 0} (result : Result T E) (cause : E) (P : E → Type 0) → IsErrAnd result (λ error. error ≡ cause) → P cause → IfErr result P
handed_on (Ok value) cause P is holds = absurd is
handed_on (Err error) cause P is holds = subst P (sym is) holds

-- if memory was wanting, no replica failed
pub spared_loss : {R T : Type 0} (faults : R → ℕ) (old new : BackupLane R) → number_of new ≡ number_of old
    → HasLossCause {T = T} (faults (replica_of old)) (faults (replica_of new)) (Err losses.NoMemory) → IsSpared faults old new
spared_loss {R} {T} faults old new number cause = record { number = number; fine = cause.kept (λ never. cc never) }

module _ {R : Type 0} (segments : R → Option Segments) (faults : R → ℕ) (old new : BackupLane R) (master : ℕ) (log : ℕ → ℕ → List ℕ) (number : number_of new ≡ number_of old) where
  pub append_unanswered : (append : Append) (before after : ℕ) (cause : Lost)
      → WhereTold (λ told now. now ≡ append_taken told master append (append_called {T = Message} (Err cause) before after)) (segments (replica_of old)) (segments (replica_of new))
      → (cause ≡ losses.Failed → calls_replica before append ≡ true) → IfSome (segments (replica_of old)) (λ told. before ≡ lengths_of told master append.segment)
      → HasLossCause {T = Message} (faults (replica_of old)) (faults (replica_of new)) (Err cause)
      → IsUnanswered segments faults old new (nodes.Master master) (bodies.Append append) log cause
  append_unanswered append before after losses.Failed told asked is cause =
      append_failed segments faults old new master append before after log number told (asked refl) is cause
  append_unanswered append before after losses.NoMemory told asked is cause = spared_loss {T = Message} faults old new number cause

  pub read_unanswered : (wanted : ReadSegment) (bytes : List ℕ) (cause : Lost) → log wanted.master wanted.segment ≡ bytes
      → WhereTold IsSame (segments (replica_of old)) (segments (replica_of new))
      → IsCopied (number_of old) master wanted bytes (segments (replica_of old)) (Err cause)
      → HasLossCause {T = Message} (faults (replica_of old)) (faults (replica_of new)) (Err cause)
      → IsUnanswered segments faults old new (nodes.Master master) (bodies.Read wanted) log cause
  read_unanswered wanted bytes losses.Failed in_log same copied cause = read_failed segments faults old new master wanted bytes log in_log number same copied cause
  read_unanswered wanted bytes losses.NoMemory in_log same copied cause = spared_loss {T = Message} faults old new number cause

-- ---- one of the backups of a lane

module _ {R : Type 0} (segments : R → Option Segments) (faults : R → ℕ) (old : List (BackupLane R)) (number : ℕ) (it before now : BackupLane R) (here message : Message) (log : ℕ → ℕ → List ℕ)
    (is : it ≡ before) (same : here ≡ message) where
  pub backed_there : (backed : Backed) → IsBackedBy segments faults it now here.from here.body log backed
      → IsBackedAt segments faults old (slice_set old (number - 1) now) number before message log backed
  backed_there backed by = record {
    now = now;
    backups = refl;
    by = grind (arith, here.from, here.body);
  }

  pub unanswered_there : (cause : Lost) → IsUnanswered segments faults it now here.from here.body log cause
      → IsUnansweredAt segments faults old (slice_set old (number - 1) now) number before message log cause
  unanswered_there losses.Failed by = backed_there failing by
  unanswered_there losses.NoMemory spared =
      record { now = now; backups = refl; spared = subst (λ (b : BackupLane R). IsSpared faults b now) is spared }
