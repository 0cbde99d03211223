-- An event is taken: when it may come, and what it makes of parts and backups if it calls no replica.
use Rattle.rk_lane.proofs.Words.{arith, ◌≡◌, ℕ, false, inr, List, [], Option, None, refl, ◌∙◌, NumberMap, Node, Segments, BackupLane, Gave}
use Rattle.rk_lane.proofs.Words.{comes_anyway, fault_of, refusal, worn, told_by_replica, Event, Seen, IsHappened, AreNumbered}
use Rattle.rk_lane.proofs.Words.{CallsNoReplica, IsMade, IsOfBackup, IsReady, Message, Some, get, receiver_of, world_of, Parts}
use Rattle.rk_types.specs.declared.node.Node.TheVariants as nodes
use Rattle.rk_world.specs.declared.event.Event.TheVariants as events
use Rattle.rk_lane.specs.Made.{IsReadyFor, worn_for}

-- ---- when it may come

-- an event that does not come anyway may come if the lane is not worn for it
pub ready_at : (parts : Parts) (event at : Event) → event ≡ at → comes_anyway at ≡ false → IsReadyFor parts event → IsReady parts at
ready_at parts event at is waits ready = grind (arith, worn, world_of)

-- it is refused by the rules of its kind if the lane is not worn for it
pub refused_for : (parts : Parts) (event : Event) → worn_for parts event ≡ None → refusal (world_of parts []) event ≡ fault_of (world_of parts []) event
refused_for parts event fresh = grind (arith, comes_anyway, worn, world_of, fault_of)

-- ---- it calls no replica

-- an event that is no delivery
pub calls_none : (parts : Parts) (event : Event) → ((number : ℕ) → event ≡ events.Deliver number → ⊥) → CallsNoReplica parts event
calls_none parts (events.Deliver number) other = absurd (other number refl)
calls_none parts event other = tt

-- nor does a message for another node than a backup
of_no_backup : (to : Node) → ((backup : ℕ) → to ≡ nodes.Backup backup → ⊥) → IsOfBackup to → ⊥
of_no_backup (nodes.Backup backup) other is = other backup refl
of_no_backup to other is = is

pub calls_no_replica : (parts : Parts) (number : ℕ) (message : Message) → get parts.wire.messages number ≡ Some message
    → ((backup : ℕ) → message.to ≡ nodes.Backup backup → ⊥) → CallsNoReplica parts (events.Deliver number)
calls_no_replica parts number message there other = grind (arith, receiver_of, there, (of_no_backup message.to other))

-- so no replica reports anything
told_nothing : (parts : Parts) (stored : NumberMap Segments) (event : Event) → CallsNoReplica parts event → Gave None ≡ told_by_replica (world_of parts stored) event None
told_nothing parts stored event other = grind (arith, world_of)

module _ {R : Type 0} (segments : R → Option Segments) (faults : R → ℕ) (old new : Parts) (event : Event) (backups : List (BackupLane R)) (numbered : AreNumbered backups) (fresh : worn_for old event ≡ None) where
  -- what it makes of the parts, with the backups as they were
  pub made_happened : (seen : Seen) → CallsNoReplica old event → IsMade old event (Gave None) new seen → IsHappened segments faults event old backups new backups seen
  made_happened seen other made = record {
    called = Gave None;
    may = tt;
    cause = inr ((λ failed. failed), refl);
    allowed = refused_for old event fresh ∙ made.allowed;
    kept = made.kept;
    lane = made.lane;
    count = refl;
    numbered = numbered;
    made = λ stored are. record {
      now = stored;
      made = made.made stored;
      told = are;
      given = λ all. record { fine = λ fine. told_nothing old stored event other; failed = λ failed. absurd failed };
    };
  }
