-- A message reaches a backup: what the event makes of the parts of a lane and of its backups.
use Rattle.rk_lane.proofs.Words.{◌≡◌, ◌≤◌, ◌<◌, ◌-◌, ◌&&◌, ℕ, zero, suc, true, List, [], ◌∷◌, length, slice_get, Option, None, Some, IfSome}
use Rattle.rk_lane.proofs.Words.{is_some, refl, sym, ap, subst, ◌∙◌, arith, unwrap_or, length-set, NumberMap, get, Segments}
use Rattle.rk_lane.proofs.Words.{number_of, replica_of, BackupLane, receiver_of, Body, Message, Backed, Called, backup_step, called_by}
use Rattle.rk_lane.proofs.Words.{failing, no_segments, stored_after, IsThere, limits_of, Master, refusal, AllTell, Stepped, backed_at}
use Rattle.rk_lane.proofs.Words.{happened, log_bytes_of, quietly, told_by_replica, told_for, told_to, with_sends, is_backup, with_stored_by}
use Rattle.rk_lane.proofs.Words.{StepError, Seen, keeps_to_top, CanBeAnswered, IsBackedBy, IsLogOf, IsSpared, sending, IsAnswerOf, IsFailed}
use Rattle.rk_lane.proofs.Words.{IsCutBack, IsFinished, IsHappened, IsUnhappened, AreNumbered, AreTold, IsTold, IsReady, IsSameParts}
use Rattle.rk_lane.proofs.Words.{IsKept, world_of, IsFitToSend, Parts}
use Rattle.std.proofs.lemmas.Bool.{le-leb}
use Rattle.rk_types.specs.declared.node.Node.TheVariants as nodes
use Rattle.rk_log.specs.Log.{bytes_of}
use Rattle.rk_message.specs.declared.message.Body.TheVariants as bodies
use Rattle.rk_world.specs.declared.error.StepError.TheVariants as errors
use Rattle.rk_world.specs.declared.event.Event.TheVariants as events
use Rattle.rk_lane.specs.Events.{HasCause}
use Rattle.rk_lane.proofs.AtEnd.{sends_made}
use Rattle.rk_lane.proofs.Coordinated.{delivered_is, delivery_allowed}
use Rattle.rk_lane.proofs.Journals.{cut_to, grown_by_none}
use Rattle.rk_lane.proofs.Keeping.{formed_after, kept_still}
use Rattle.rk_lane.proofs.MasterWork.{master_is, stands_at}
use Rattle.rk_lane.proofs.Quiet.{masters_counted}
use Rattle.rk_lane.proofs.Refusing.{refused_fresh}
use Rattle.rk_lane.proofs.Sendable.{fit_to_send}
use Rattle.rk_lane.proofs.Told.{none_failed, numbered_after, one_failed, stored_then, told_then, with_backup}
use Rattle.rk_lane.proofs.Topped.{still_topped}

-- ---- small laws

-- a call failed or it did not
pub by_failing : (called : Called) (P : Type 0) → (IsFailed called → P) → ((IsFailed called → ⊥) → P) → P
by_failing called P failed fine = grind arith

-- what is found under a number that is there
record IsFound {X : Type 0} (found : Option X) : Type 0 where
  it : X
  is : found ≡ Some it

found_some : {X : Type 0} (found : Option X) → is_some found ≡ true → IsFound found
found_some None there = absurd (cc there)
found_some (Some it) there = record { it = it; is = refl }

-- what the call came to, if the replica reports its segments
given_by : {R : Type 0} (segments : R → Option Segments) (replica : R) (found : Option Segments) (P : Segments → Type 0) (its : Segments)
    → segments replica ≡ Some its → found ≡ Some its → IfSome (segments replica) P → P (unwrap_or found no_segments)
given_by segments replica found P its tells is holds =
    subst (λ (o : Option Segments). P (unwrap_or o no_segments)) (sym is) (subst (λ (o : Option Segments). IfSome o P) tells holds)

-- ---- a message for a backup

-- the element at a place of a list
record StandsIn {X : Type 0} (list : List X) (place : ℕ) : Type 0 where
  it : X
  at : slice_get list place ≡ Some it

stands_in : {X : Type 0} (list : List X) (place : ℕ) → place < length list → StandsIn list place
stands_in [] place within = absurd (omega arith)
stands_in (first ∷ rest) zero within = record { it = first; at = refl }
stands_in (first ∷ rest) (suc place) within =
    let later = stands_in rest place (omega arith) in
    record { it = later.it; at = later.at }

pub can_be_answered : (old : Parts) (number : ℕ) (message : Message) → IsKept old → get old.wire.messages number ≡ Some message → CanBeAnswered (length old.masters.items) message.body
can_be_answered old number message kept on = grind (arith, masters_counted, limits_of, world_of)

-- the logs of its world have what it asks for
logs_of : (old : Parts) (body : Body) → IsKept old → CanBeAnswered (length old.masters.items) body → IsLogOf old.masters.items (log_bytes_of (world_of old [])) body
logs_of old (bodies.Read wanted) kept there =
    let stands = stands_at old.masters.items wanted.master kept.present there in
    record {
      it = stands.it;
      at = stands.at;
      bytes = ap (λ (master : Master). bytes_of master.log wanted.segment) (master_is old [] wanted.master stands.it there stands.at);
    }
logs_of old _ kept there = tt

-- a message is for a backup that is there
pub record IsReached {R : Type 0} (old : Parts) (before : List (BackupLane R)) (message : Message) (backup : ℕ) : Type 0 where
  pub first : 1 ≤ backup
  pub it : BackupLane R
  pub at : slice_get before (backup - 1) ≡ Some it
  pub logs : IsLogOf old.masters.items (log_bytes_of (world_of old [])) message.body

pub reached : {R : Type 0} (old : Parts) (before : List (BackupLane R)) (number : ℕ) (message : Message) (backup : ℕ) → IsKept old
    → get old.wire.messages number ≡ Some message → message.to ≡ nodes.Backup backup → length before ≡ old.backups → IsReached old before message backup
reached old before number message backup kept on to count =
    let there : (1 ≤ backup) × (backup ≤ old.backups) = subst (IsThere (limits_of (world_of old []))) to (kept.formed.formed.wire.each number message on).to in
    let stands = stands_in before (backup - 1) (omega (arith, there.0, there.1, count)) in
    record {
      first = there.0;
      it = stands.it;
      at = stands.at;
      logs = logs_of old message.body kept (can_be_answered old number message kept on);
    }

-- ---- the event

module _ {R : Type 0} (segments : R → Option Segments) (faults : R → ℕ) (old : Parts) (before : List (BackupLane R)) (number : ℕ) (message : Message) (backup : ℕ)
    (it now : BackupLane R) (backed : Backed) (ready : IsReady old (events.Deliver number)) (on : get old.wire.messages number ≡ Some message)
    (to : message.to ≡ nodes.Backup backup) (count : length before ≡ old.backups) (numbered : AreNumbered before) (at : slice_get before (backup - 1) ≡ Some it)
    (by : IsBackedBy segments faults it now message.from message.body (log_bytes_of (world_of old [])) backed) where
  abbrev change : Segments → Segments
  change stored = stored_after stored message.from message.body by.called

  abbrev stored_now : NumberMap Segments → NumberMap Segments
  stored_now stored = stored_then backup change stored (get stored backup)

  -- the backup is one of the lane's
  is_there : (1 ≤ backup) × (backup ≤ old.backups)
  is_there = subst (IsThere (limits_of (world_of old []))) to (ready.kept.formed.formed.wire.each number message on).to

  counted : is_backup (world_of old []) backup ≡ true
  counted = λ i. le-leb 1 backup is_there.0 i && le-leb backup old.backups is_there.1 i

  its_number : number_of it ≡ backup
  its_number = grind (arith, is_there)

  allowed : refusal (world_of old []) (events.Deliver number) ≡ None
  allowed = grind (arith, refused_fresh, world_of, delivery_allowed)

  backed_happens : (stored : NumberMap Segments) → happened (world_of old stored) (events.Deliver number) by.called ≡ backed_at (world_of old (stored_now stored)) backed
  backed_happens stored =
      grind (arith, delivered_is, world_of, backed_at, with_stored_by, backup_step, log_bytes_of, quietly, counted, its_number)

  -- what failed
  cause : HasCause faults (receiver_of number old.wire) by.called before (with_backup before backup now)
  cause = grind (arith, by_failing, receiver_of, with_backup, one_failed, is_there, none_failed)

  -- what the call came to, if all replicas report their segments
  given : (stored : NumberMap Segments) → AreTold segments before stored → AllTell (world_of old stored)
      → IsAnswerOf (told_by_replica (world_of old stored) (events.Deliver number)) by.called
  given stored are all =
      let its = found_some (get stored backup) (all backup counted) in
      let tells : IsTold segments before backup its.it = are backup its.it its.is in
      let place : tells.place ≡ backup - 1 = omega (arith, tells.number_is) in
      let same_backup : Some tells.backup ≡ Some it = sym tells.there ∙ ap (slice_get before) place ∙ at in
      let same : tells.backup ≡ it = cc same_backup in
      let answers : told_by_replica (world_of old stored) (events.Deliver number) ≡ (λ fault. told_to (world_of old stored) message (nodes.Backup backup) fault) =
      (λ i fault. told_for (world_of old stored) (on i) fault) ∙ (λ i fault. told_to (world_of old stored) message (to i) fault) in
      subst (λ (answer : Option ℕ → Called). IsAnswerOf answer by.called) (sym answers)
      (given_by segments (replica_of it) (get stored backup) (λ told. IsAnswerOf (called_by told message.from message.body) by.called) its.it
      (ap (λ (b : BackupLane R). segments (replica_of b)) (sym same) ∙ tells.tells) its.is by.given)

  -- what the event makes, by the world after it
  pub backup_happened : (new : Parts) (after : List (BackupLane R)) (seen : Seen) → after ≡ with_backup before backup now → IsKept new → IsSameParts old new
      → ((stored : NumberMap Segments) → backed_at (world_of old stored) backed ≡ record { world = world_of new stored; seen = seen })
      → IsHappened segments faults (events.Deliver number) old before new after seen
  backup_happened new after seen is kept lane makes =
      subst (λ (list : List (BackupLane R)). IsHappened segments faults (events.Deliver number) old before new list seen) (sym is)
      (record {
        called = by.called;
        may = by.may;
        cause = cause;
        allowed = allowed;
        kept = kept;
        lane = lane;
        count = length-set before (backup - 1) now;
        numbered = numbered_after before backup it now is_there.0 at by.number numbered;
        made = λ stored are. record {
          now = stored_now stored;
          made = backed_happens stored ∙ makes (stored_now stored);
          told = told_then before backup it now is_there.0 at segments change by.told stored are (get stored backup) refl;
          given = given stored are;
        };
      })

  -- ---- it is lost

  lost_makes : (seen : Seen) → backed ≡ failing → seen ≡ record { first = 0; sent = 0; lost = true; taken = None } → (stored : NumberMap Segments)
      → backed_at (world_of old stored) backed ≡ record { world = world_of old stored; seen = seen }
  lost_makes seen is lost stored =
      let keeps = keeps_to_top (world_of old []) ready.kept.formed.formed in
      ap (backed_at (world_of old stored)) is
      ∙ (λ i. record {
        world =
            still_topped (world_of old stored)
            (record { top = keeps.top; sent = keeps.sent; stamp = keeps.stamp; seen = keeps.seen; terms = keeps.terms; counters = keeps.counters }) i;
        seen = sym lost i;
      })

  pub lost_happened : (after : List (BackupLane R)) (seen : Seen) → after ≡ with_backup before backup now → backed ≡ failing
      → seen ≡ record { first = 0; sent = 0; lost = true; taken = None } → IsHappened segments faults (events.Deliver number) old before old after seen
  lost_happened after seen is_after is lost =
      backup_happened old after seen is_after ready.kept (record { number = refl; backups = refl; masters = refl }) (lost_makes seen is lost)

  -- ---- it answers

  sent_makes : (sends : List Message) (new : Parts) (seen : Seen) → backed ≡ sending sends → IsFinished old sends new seen → (stored : NumberMap Segments)
      → backed_at (world_of old stored) backed ≡ record { world = world_of new stored; seen = seen }
  sent_makes sends new seen is finished stored =
      ap (backed_at (world_of old stored)) is
      ∙ sends_made old new old.top sends seen finished (keeps_to_top (world_of old []) ready.kept.formed.formed) (omega arith) (λ limit low within. low) stored

  -- all is kept then
  sent_keeps : (sends : List Message) (new : Parts) (seen : Seen) → backed ≡ sending sends → IsFinished old sends new seen → IsKept new
  sent_keeps sends new seen is finished =
      kept_still old new (events.Deliver number) by.called seen ready.kept ready.may by.may allowed
      (backed_happens [] ∙ sent_makes sends new seen is finished [])
      (ap (λ (p : Parts). p.masters) finished.parts) (ap (λ (p : Parts). p.crashed) finished.parts) (ap (λ (p : Parts). p.log_bytes) finished.parts)

  pub sent_happened : (sends : List Message) (new : Parts) (after : List (BackupLane R)) (seen : Seen) → after ≡ with_backup before backup now → backed ≡ sending sends
      → IsFinished old sends new seen → IsHappened segments faults (events.Deliver number) old before new after seen
  sent_happened sends new after seen is_after is finished = search (backup_happened, sent_keeps, sent_makes, finished.parts)

  -- what is sent fits the wire
  pub sent_fits : (sends : List Message) → backed ≡ sending sends → IsFitToSend old.wire sends
  sent_fits sends is =
      fit_to_send (world_of old []) sends
      (formed_after (world_of old []) (with_sends (world_of old []) sends).world (events.Deliver number) by.called ready.may by.may allowed ready.kept.formed
      (ap (λ (stepped : Stepped). stepped.world) (backed_happens [] ∙ ap (backed_at (world_of old [])) is))
      (record { bytes = ready.kept.formed.room.bytes; masters = ready.kept.formed.room.masters }))

-- ---- memory is wanting

module _ {R : Type 0} (faults : R → ℕ) (old : Parts) (before : List (BackupLane R)) (number backup : ℕ) (it now : BackupLane R) (first : 1 ≤ backup)
    (numbered : AreNumbered before) (at : slice_get before (backup - 1) ≡ Some it) (spared : IsSpared faults it now) where
  -- before anything was sent
  pub spared_unhappened : (after : List (BackupLane R)) (error : StepError) → after ≡ with_backup before backup now → error ≡ errors.NoMemory
      → IsUnhappened faults (events.Deliver number) old before old after error
  spared_unhappened after error is memory = grind (arith, cause, length-set, numbered_after, none_failed)

  -- when it was to be sent
  pub cut_unhappened : (new : Parts) (after : List (BackupLane R)) (error : StepError) → after ≡ with_backup before backup now
      → IsCutBack old (length old.ledger.journal) new error → IsUnhappened faults (events.Deliver number) old before new after error
  cut_unhappened new after error is cut = grind (arith, cause, cut_to, grown_by_none, length-set, numbered_after, none_failed)
