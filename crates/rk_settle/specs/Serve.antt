-- serve: the outstanding call of a client is brought on. If the client does not know who owns its key, it asks; then it sends its
-- request to that owner. After a Moved it tries once more. Last, log exchanges of the master that was asked run while the call is
-- outstanding and staged there.
use Rattle.std.specs.Prelude.{ℕ, ◌==◌, ◌&&◌, Bool, false, is_some, is_none, if◌then◌else◌, List, [], ◌∷◌, ◌++◌, Option, Some, None, unwrap_or}
use Rattle.rk_types.specs.declared.call.Call.{Call}
use Rattle.rk_types.specs.declared.node.Node.TheVariants as nodes
use Rattle.rk_session.specs.Owners.{known_owner, looks_up}
use Rattle.rk_world.specs.Client.{Session, call_lane, new_session}
use Rattle.rk_world.specs.Cluster.{Cluster, session_at}
use Rattle.rk_world.specs.Master.{is_staged}
use Rattle.rk_world.specs.World.{World, lives, master_at}
use Rattle.rk_settle.specs.Tasks.{round_of, turn_exchange}
use Rattle.rk_settle.specs.declared.task.Act.TheVariants as acts
use Rattle.rk_settle.specs.declared.task.Task.{Task}
use Rattle.rk_settle.specs.declared.task.Task.TheVariants as tasks
use Rattle.rk_settle.specs.declared.topic.Topic.TheVariants as topics

-- how many times a call is tried
abbrev pub MOST_TRIES : ℕ
MOST_TRIES = 2

-- the session of a client, if this is what is known of it
abbrev pub session_of : ℕ → Option Session → Session
session_of client known = unwrap_or known (new_session client)

-- a client takes its turn, and what comes of that is delivered
abbrev pub ask_exchange : ℕ → ℕ → Task
ask_exchange lane client = tasks.Exchanges lane topics.Call (acts.Asks client)

-- a call is tried: first the owner is asked for, if the client's turn does that
abbrev pub try_tasks : Session → ℕ → ℕ → ℕ → List Task
try_tasks session lane client times =
    (if looks_up session then ask_exchange lane client ∷ [] else []) ++ tasks.Requests lane client times ∷ []

-- the request is sent to the owner; if there is none, the command ends
abbrev pub request_by : ℕ → ℕ → ℕ → Option ℕ → List Task
request_by lane client times None = []
request_by lane client times (Some owner) = ask_exchange lane client ∷ tasks.Hears lane client times owner ∷ []

-- the request is sent to the owner that the client knows
abbrev pub request_tasks : Session → ℕ → ℕ → ℕ → List Task
request_tasks session lane client times = request_by lane client times (known_owner session)

-- whether the client was told that the tablet has moved: its call is outstanding still, and it knows no owner any more
abbrev pub was_moved : Session → Bool
was_moved session = is_some session.outstanding && is_none (known_owner session)

-- after a Moved the call is tried once more, and else it is committed
abbrev pub hear_tasks : Session → ℕ → ℕ → ℕ → ℕ → List Task
hear_tasks session lane client times asked =
    if times == MOST_TRIES then tasks.Commits lane client asked ∷ []
    else (if was_moved session then tasks.Tries lane client MOST_TRIES ∷ [] else tasks.Commits lane client asked ∷ [])

-- whether a client's call, if one is outstanding, is staged at a master that lives
abbrev pub is_staged_by : World → ℕ → ℕ → Option Call → Bool
is_staged_by w client asked None = false
is_staged_by w client asked (Some call) = lives w asked && is_staged (master_at w asked) client call.seq

-- a log exchange, and then the next, while the call is outstanding and staged
abbrev pub commit_tasks : World → Session → ℕ → ℕ → ℕ → List Task
commit_tasks w session lane client asked =
    if is_staged_by w client asked session.outstanding
    then round_of (turn_exchange lane topics.Log (nodes.Master asked) ∷ []) ++ tasks.Commits lane client asked ∷ []
    else []

-- a call, if one is outstanding, is tried in its lane
abbrev pub serve_by : ℕ → Option Call → List Task
serve_by client None = []
serve_by client (Some call) = tasks.Tries (call_lane call) client 1 ∷ []

-- serve
abbrev pub serve : Cluster → ℕ → List Task
serve cluster client = serve_by client (session_at cluster client).outstanding
