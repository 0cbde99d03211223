-- The tasks of exchanges, and of the commands that run them. Their type has no name here, so each is given by a list that contains it.
use Rattle.std.proofs.Common.{◌≡◌, ℕ, Bool, true, [], ◌∷◌, ◌++◌, Some, map, refl, if◌then◌else◌}
use Rattle.rk_scripts.proofs.Words.{Call, looks_up, Session, Cluster, lane_at, World, advance, advance_tasks, coordinator_exchange}
use Rattle.rk_scripts.proofs.Words.{freeze_by, grant_task, log_round, reach_between, reaches_to, Begun, Frozen, Pulled, hand_by, sort_tasks}
use Rattle.rk_scripts.proofs.Words.{priority, is_short_of, ask_exchange, commit_tasks, hear_tasks, is_staged_by, request_by, serve_by}
use Rattle.rk_scripts.proofs.Words.{try_tasks, was_moved, lane_numbers, asks, round_of, turn_exchange, is_on, unfolded, Node, Role}
use Rattle.rk_settle.specs.Advance.{transfer_tasks}
use Rattle.rk_scripts.proofs.settle.Tasks.{Task, task_at}

-- what something maps from
abbrev DomainOf : {A B : Type 0} → (A → B) → Type 0
DomainOf {A} {B} f = A

-- the type of topics
abbrev pub Topic : Type 0
Topic = DomainOf is_on

-- the type of reaches
abbrev pub Reach : Type 0
Reach = DomainOf reaches_to

-- ---- exchanges

-- messages are sorted
abbrev pub sorts : ℕ → Topic → ℕ → ℕ → Task
sorts lane topic from last = task_at (hand_by (record { messages = []; sent = last }) lane topic (Some from)) 2

-- messages are handed out
abbrev pub hands : ℕ → Topic → ℕ → Task
hands lane topic from = task_at (sort_tasks (record { messages = []; sent = 0 }) lane topic from 0) 0

-- the topic of an exchange
abbrev calling : {topic : Topic}
    → ((cluster : Cluster) (lane client : ℕ) → unfolded cluster (ask_exchange lane client) ≡ asks lane client ∷ sorts lane topic (lane_at cluster lane).wire.sent (lane_at cluster lane).wire.sent ∷ [])
    → Topic
calling {topic} same = topic

-- that of a client's call
abbrev pub call_topic : Topic
call_topic = calling (λ cluster lane client. refl)

-- ---- priority

-- each of these finds what makes the tasks of a list, which has no name here
abbrev hastening : {f : ℕ → ℕ → Task} → ((cluster : Cluster) (tablet : ℕ) → priority cluster tablet ≡ map (λ lane. f lane tablet) (lane_numbers cluster)) → ℕ → ℕ → Task
hastening {f} same = f

-- a target asks for what it wants first
abbrev pub hastens : ℕ → ℕ → Task
hastens = hastening (λ cluster tablet. refl)

-- ---- serve

abbrev trying : {f : Call → ℕ → Task} → ((client : ℕ) (call : Call) → serve_by client (Some call) ≡ f call client ∷ []) → Call → ℕ → Task
trying {f} same = f

-- a call is tried for the first time
abbrev pub tries : Call → ℕ → Task
tries = trying (λ client call. refl)

abbrev retrying : {f : ℕ → ℕ → Task}
    → ((session : Session) (lane client asked : ℕ) → hear_tasks session lane client 1 asked ≡ (if was_moved session then f lane client ∷ [] else hear_tasks session lane client 2 asked))
    → ℕ → ℕ → Task
retrying {f} same = f

-- and for the second time
abbrev pub tries_again : ℕ → ℕ → Task
tries_again = retrying (λ session lane client asked. refl)

abbrev requesting : {f : ℕ → ℕ → ℕ → Task}
    → ((session : Session) (lane client times : ℕ) → try_tasks session lane client times ≡ (if looks_up session then ask_exchange lane client ∷ [] else []) ++ f lane client times ∷ [])
    → ℕ → ℕ → ℕ → Task
requesting {f} same = f

-- a call is sent to the owner
abbrev pub requests : ℕ → ℕ → ℕ → Task
requests = requesting (λ session lane client times. refl)

abbrev hearing : {f : ℕ → ℕ → ℕ → ℕ → Task}
    → ((lane client times owner : ℕ) → request_by lane client times (Some owner) ≡ ask_exchange lane client ∷ f lane client times owner ∷ []) → ℕ → ℕ → ℕ → ℕ → Task
hearing {f} same = f

-- what the owner has answered is looked at
abbrev pub hears : ℕ → ℕ → ℕ → ℕ → Task
hears = hearing (λ lane client times owner. refl)

abbrev committing : {f : ℕ → ℕ → ℕ → Task}
    → ((w : World) (session : Session) (lane client asked : ℕ) → commit_tasks w session lane client asked ≡ (if is_staged_by w client asked session.outstanding then log_round lane asked ++ f lane client asked ∷ [] else []))
    → ℕ → ℕ → ℕ → Task
committing {f} same = f

-- a call is committed
abbrev pub commits : ℕ → ℕ → ℕ → Task
commits = committing (λ w session lane client asked. refl)

-- ---- advance

abbrev advancing : {f : ℕ → ℕ → Reach → Task} → ((cluster : Cluster) (tablet : ℕ) (reach : Reach) → advance cluster tablet reach ≡ map (λ lane. f lane tablet reach) (lane_numbers cluster))
    → ℕ → ℕ → Reach → Task
advancing {f} same = f

-- a migration is brought to a reach, from reach to reach
abbrev pub advances : ℕ → ℕ → Reach → Task
advances = advancing (λ cluster tablet reach. refl)

abbrev reaching : {f : ℕ → ℕ → Reach → Task}
    → ((w : World) (lane tablet : ℕ) (reach : Reach) → advance_tasks w lane tablet reach ≡ (if is_short_of w tablet reach then map (f lane tablet) (reaches_to reach) else []))
    → ℕ → ℕ → Reach → Task
reaching {f} same = f

-- it is brought to one from the one before
abbrev pub reaches : ℕ → ℕ → Reach → Task
reaches = reaching (λ w lane tablet reach. refl)

abbrev freezing : {f : ℕ → ℕ → ℕ → Task} → ((lane tablet source : ℕ) → freeze_by lane tablet source Role.Closing ≡ log_round lane source ++ f lane tablet source ∷ []) → ℕ → ℕ → ℕ → Task
freezing {f} same = f

-- log exchanges run while a source closes a tablet
abbrev pub freezes : ℕ → ℕ → ℕ → Task
freezes = freezing (λ lane tablet source. refl)

-- ---- the topics of advance

abbrev preparing : {f : ℕ → Topic}
    → ((lane tablet source target : ℕ) (opening : Bool) → reach_between lane tablet opening source target Begun ≡ coordinator_exchange lane (f tablet) ∷ []) → ℕ → Topic
preparing {f} same = f

-- a target makes ready
abbrev pub readiness : ℕ → Topic
readiness = preparing (λ lane tablet source target opening. refl)

abbrev closing : {f : ℕ → Topic}
    → ((lane tablet source target : ℕ) (opening : Bool) → reach_between lane tablet opening source target Frozen ≡ coordinator_exchange lane (f tablet) ∷ freezes lane tablet source ∷ [])
    → ℕ → Topic
closing {f} same = f

-- a source is told to close
abbrev pub close_topic : ℕ → Topic
close_topic = closing (λ lane tablet source target opening. refl)

abbrev handing : {f : ℕ → Topic} → ((lane tablet : ℕ) → transfer_tasks lane tablet true ≡ coordinator_exchange lane (f tablet) ∷ []) → ℕ → Topic
handing {f} same = f

-- a source reports what it hands over
abbrev pub hand_topic : ℕ → Topic
hand_topic = handing (λ lane tablet. refl)

abbrev granting : {f : ℕ → Topic} → ((lane tablet : ℕ) → grant_task lane tablet ≡ coordinator_exchange lane (f tablet)) → ℕ → Topic
granting {f} same = f

-- a target is granted its tablet
abbrev pub grant_topic : ℕ → Topic
grant_topic = granting (λ lane tablet. refl)

abbrev logging : {topic : Topic} → ((lane master : ℕ) → log_round lane master ≡ round_of (turn_exchange lane topic (Node.Master master) ∷ [])) → Topic
logging {topic} same = topic

-- a log exchange
abbrev pub log_topic : Topic
log_topic = logging (λ lane master. refl)

abbrev pulling : {f : ℕ → Topic}
    → ((lane tablet source target : ℕ) (opening : Bool) → reach_between lane tablet opening source target Pulled ≡ round_of (turn_exchange lane (f tablet) (Node.Master target) ∷ []) ++ reaches lane tablet Pulled ∷ [])
    → ℕ → Topic
pulling {f} same = f

-- a target pulls
abbrev pub pull_topic : ℕ → Topic
pull_topic = pulling (λ lane tablet source target opening. refl)
