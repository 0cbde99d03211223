-- What a lane's answer to an event shows of how often its replicas failed.
use Rattle.rk_cluster.proofs.Words.{arith, ◌≡◌, ℕ, true, false, List, [], ◌∷◌, ◌+◌, slice_get, slice_set, Option, None, Some, IfSome}
use Rattle.rk_cluster.proofs.Words.{Result, Ok, Err, IfErr, IfOk, OnErr, refl, sym, ap, subst, ◌∙◌, ⊎_elim, eq-eqb, Node, Segments, Traffic}
use Rattle.rk_cluster.proofs.Words.{receiver_of, Message, Visited, Session, Called, comes_anyway, refusal, Stepped, stepped_by}
use Rattle.rk_cluster.proofs.Words.{told_by_replica, World, StepError, Event, Seen, IsRefused, IsStepOf, OneFailed, fault_counts}
use Rattle.rk_cluster.proofs.Words.{receiver_by, LaneState, Running, world_with, IsVisitOf, is_backup, LanesGoOn, counts_in, Fate, Lost}
use Rattle.rk_cluster.proofs.Words.{left_by, lost_by}
use Rattle.rk_types.specs.declared.node.Node.TheVariants as nodes
use Rattle.rk_message.specs.declared.message.Body.{Body}
use Rattle.rk_world.specs.Backup.{Failed, called_by}
use Rattle.rk_world.specs.Step.{delivered_to}
use Rattle.rk_world.specs.declared.error.StepError.TheVariants as causes
use Rattle.rk_world.specs.declared.event.Event.TheVariants as events
use Rattle.rk_lane.specs.Events.{HasCause, IsAnswerOf, IsFailed}
use Rattle.rk_cluster.specs.Delivering.{IsForBackup}
use Rattle.rk_cluster.specs.Faults.{SomeLaneFailed}
use Rattle.rk_cluster.proofs.Faults.{go_on_kept, go_on_none, lanes_failed_once, lanes_kept}

-- ---- a message that was lost at a backup

lost_to : (w : World) (message : Message) (to : Node) (called : Called) → is_backup (Some to) ≡ true → (delivered_to w message to called).seen.lost ≡ true → IsFailed called
lost_to w message to called is lost = grind arith

lost_then : (w : World) (number : ℕ) (called : Called) (refused : Option StepError) (stepped : Stepped) → is_backup (receiver_of number w.wire) ≡ true
    → stepped_by w (events.Deliver number) called refused ≡ Ok stepped → stepped.seen.lost ≡ true → IsFailed called
lost_then w number called refused stepped is came lost = grind (arith, lost_to)

-- ---- whom a message is for

-- if a lane's wire has a message for a backup, its delivery there is a delivery to a backup
pub for_backup : {R : Type 0} (lanes : List (LaneState R)) (place number : ℕ) (lane : LaneState R) (wire : Traffic) (to : Node) → slice_get lanes place ≡ Some lane
    → IfSome lane.running (λ running. wire ≡ running.wire) → receiver_of number wire ≡ Some to → is_backup (Some to) ≡ true
    → IsForBackup lanes place (events.Deliver number)
for_backup {R = R} lanes place number lane wire to there known to_is is other at = grind (arith, is_backup, receiver_of)

-- ---- what a replica that reports its segments answers if it fails

called_left : (stored : Segments) (sender : Node) (body : Body) (kept left : ℕ) → called_by stored sender body (Some kept) ≡ Failed left → called_by stored sender body (Some left) ≡ Failed left
called_left stored sender body kept left is = grind arith

-- it leaves just what is left
told_left : (w : World) (event : Event) (kept left : ℕ) → told_by_replica w event (Some kept) ≡ Failed left → told_by_replica w event (Some left) ≡ Failed left
told_left w event kept left is = grind (arith, called_left)

-- what a fault leaves at the receiver whose replica it strikes
left_there : (lane place left : ℕ) (receiver : Option Node) → receiver ≡ Some (nodes.Backup (place + 1)) → left_by (Lost lane place left) lane receiver ≡ Some left
left_there lane place left receiver whose = grind (arith, left_by, eq-eqb)

-- ---- a lane

module _ {R : Type 0} (faults : R → ℕ) (lanes : List (LaneState R)) (place : ℕ) (old new : LaneState R) (there : slice_get lanes place ≡ Some old) where
  -- what became of the call of a replica by an event whose message, if it has one, has this receiver
  pub record HasFate (receiver : Option Node) (called : Called) : Type 0 where
    pub fate : Fate
    pub counts : LanesGoOn faults (fate ∷ []) lanes (slice_set lanes place new)
    pub answers : (w : World) (event : Event) → IsAnswerOf (told_by_replica w event) called → told_by_replica w event (left_by fate place receiver) ≡ called

  lost_fate : (receiver : Option Node) (left : ℕ) → OneFailed faults receiver old.backups new.backups → HasFate receiver (Failed left)
  lost_fate receiver left it = record {
    fate = Lost place it.place left;
    counts = lanes_failed_once faults lanes place left receiver old new there it;
    answers = λ w event answer.
        let kept = answer.failed tt in
        ap (told_by_replica w event) (left_there place it.place left receiver it.whose) ∙ told_left w event kept.0 left (sym kept.1);
  }

  pub has_fate : (receiver : Option Node) (called : Called) → HasCause faults receiver called old.backups new.backups → HasFate receiver called
  has_fate receiver called cause = grind (arith, fault_counts, lost_fate, go_on_kept, counts_in, slice_set, lanes_kept)

  -- no replica of the lane has failed
  same_backups : new.backups ≡ old.backups → LanesGoOn faults [] lanes (slice_set lanes place new)
  same_backups same = lanes_kept faults lanes place old new there (ap (fault_counts faults) same)

  pub refused_on : (event : Event) (error : StepError) → IsRefused faults event old new error → LanesGoOn faults [] lanes (slice_set lanes place new)
  refused_on event error refused = lanes_kept faults lanes place old new there refused.counts

  pub spent_on : new ≡ old → LanesGoOn faults [] lanes (slice_set lanes place new)
  spent_on same = same_backups (ap (λ (lane : LaneState R). lane.backups) same)

  -- an event came to it
  stepped_on : (segments : R → Option Segments) (event : Event) (running : Option Running) (answer : Result Seen StepError)
      → IfSome running (λ _. IfOk answer (IsStepOf segments faults event old new)) → IfErr answer (IsRefused faults event old new) → (running ≡ None → new ≡ old)
      → LanesGoOn faults [] lanes (slice_set lanes place new)
  stepped_on segments event None answer ok refused spent = spent_on (spent refl)
  stepped_on segments event (Some running) (Ok seen) ok refused spent =
      let its = has_fate (receiver_by event ok.before.wire) ok.called ok.cause in
      go_on_none (its.fate ∷ []) (counts_in faults lanes) (counts_in faults (slice_set lanes place new)) its.counts
  stepped_on segments event (Some running) (Err error) ok refused spent = refused_on event error refused

  pub lanes_stepped : (segments : R → Option Segments) (event : Event) (answer : Result Seen StepError)
      → IfSome old.running (λ _. IfOk answer (IsStepOf segments faults event old new))
      → IfErr answer (IsRefused faults event old new) → (old.running ≡ None → new ≡ old) → LanesGoOn faults [] lanes (slice_set lanes place new)
  lanes_stepped segments event answer ok refused spent = stepped_on segments event old.running answer ok refused spent

  -- a client's turn or answer calls no replica
  pub lanes_visited : (visit : World → Result Visited StepError) (session : Session) (answer : Result Seen StepError)
      → IfOk answer (IsVisitOf visit old new session) → OnErr answer (new ≡ old) → LanesGoOn faults [] lanes (slice_set lanes place new)
  lanes_visited visit session (Ok seen) ok kept = same_backups ok.backups
  lanes_visited visit session (Err error) ok kept = spent_on kept

  -- ---- a message that was delivered to a backup was lost only if its replica failed

  once : (receiver : Option Node) (called : Called) → IsFailed called → HasCause faults receiver called old.backups new.backups → SomeLaneFailed faults lanes (slice_set lanes place new)
  once receiver called failed cause =
      ⊎_elim
      (λ (it : IsFailed called × OneFailed faults receiver old.backups new.backups).
      record { lane = place; place = it.1.place; left = 0; rose = lanes_failed_once faults lanes place 0 receiver old new there it.1 })
      (λ (it : (IsFailed called → ⊥) × (fault_counts faults new.backups ≡ fault_counts faults old.backups)). absurd (it.0 failed)) cause

  lost_on : (segments : R → Option Segments) (number : ℕ) (seen : Seen) (running : Option Running) → old.running ≡ running
      → IfSome running (λ it. is_backup (receiver_of number it.wire) ≡ true) → seen.lost ≡ true → IsStepOf segments faults (events.Deliver number) old new seen
      → SomeLaneFailed faults lanes (slice_set lanes place new)
  lost_on segments number seen None was is lost step = grind (arith, step.before, step.was)
  lost_on segments number seen (Some running) was is lost step =
      let both : Some running ≡ Some step.before = sym was ∙ step.was in
      let same : running ≡ step.before = cc both in
      let from = step.stepped [] (λ number stored none. absurd (cc none)) in
      once (receiver_by (events.Deliver number) step.before.wire) step.called
      (lost_then (world_with old step.before []) number step.called (refusal (world_with old step.before []) (events.Deliver number))
      (record { world = world_with new step.after from.backups; seen = seen })
      (subst (λ (it : Running). is_backup (receiver_of number it.wire) ≡ true) same is) from.stepped lost)
      step.cause

  failed_on : (segments : R → Option Segments) (number : ℕ) (running : Option Running) (answer : Result Seen StepError) → old.running ≡ running
      → IfSome running (λ _. IfOk answer (IsStepOf segments faults (events.Deliver number) old new))
      → (running ≡ None → comes_anyway (events.Deliver number) ≡ false → answer ≡ Err causes.NoMemory)
      → IfSome running (λ it. is_backup (receiver_of number it.wire) ≡ true) → lost_by answer ≡ true
      → SomeLaneFailed faults lanes (slice_set lanes place new)
  failed_on segments number running answer was ok never is lost = grind (arith, lost_by, lost_on)

  pub lanes_failed : (segments : R → Option Segments) (event : Event) (answer : Result Seen StepError)
      → IfSome old.running (λ _. IfOk answer (IsStepOf segments faults event old new))
      → (old.running ≡ None → comes_anyway event ≡ false → answer ≡ Err causes.NoMemory) → IsForBackup lanes place event → lost_by answer ≡ true
      → SomeLaneFailed faults lanes (slice_set lanes place new)
  lanes_failed segments (events.Deliver number) answer ok never is_for lost =
      failed_on segments number old.running answer refl ok never (is_for old there) lost
  lanes_failed segments _ answer ok never is_for lost = absurd is_for
