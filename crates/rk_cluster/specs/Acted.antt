-- What comes of the events of a call: the cluster after them, what occurred, and what clients said. A lane that is worn refuses, and ends
-- the run; what came before it has happened.
use Rattle.std.specs.Prelude.{ℕ, ◌-◌, Bool, false, length, slice_get, List, [], ◌∷◌, ◌++◌, Option, Some, None, Result, Ok, Err}
use Rattle.rk_types.specs.declared.call.Call.{Call}
use Rattle.rk_types.specs.declared.history.Receipt.{Receipt}
use Rattle.rk_types.specs.declared.node.Said.{Said}
use Rattle.rk_types.specs.declared.node.Said.TheVariants as says
use Rattle.rk_world.specs.declared.error.StepError.{StepError}
use Rattle.rk_world.specs.declared.error.StepError.TheVariants as errors
use Rattle.rk_world.specs.declared.event.Taken.{Taken}
use Rattle.rk_world.specs.declared.event.Taken.TheVariants as takes
use Rattle.rk_world.specs.Calls.{Visited, accept, ask}
use Rattle.rk_world.specs.Client.{Session}
use Rattle.rk_world.specs.Cluster.{Accepts, Asks, Calls, Cluster, Happens, Joins, Occurrence, cluster_after, cluster_stepped, cluster_visited, lane_at, session_at}
use Rattle.rk_world.specs.Step.{Stepped, step}

-- a cluster after some events, those of them that came, what clients said, and the number that is worn, if one is
pub record Acted : Type 0 where
  pub cluster : Cluster
  pub came : List Occurrence
  pub said : List Said
  pub worn : Option ℕ

-- a client says the outcome of its last receipt
abbrev pub reply_of : ℕ → Option Receipt → List Said
reply_of client None = []
reply_of client (Some receipt) = says.Reply client receipt.call.seq receipt.outcome ∷ []

-- the last receipt, if there is one
abbrev pub last_receipt : List Receipt → Option Receipt
last_receipt receipts = slice_get receipts (length receipts - 1)

-- what a client with this outstanding call says of what it took, and with these receipts after it
abbrev pub said_of : Call → List Receipt → Taken → List Said
said_of call receipts takes.Done = reply_of call.client (last_receipt receipts)
said_of call receipts (takes.Moved tablet) = says.Moved call.client call.seq tablet ∷ []
said_of call receipts (takes.NotYet key) = says.NotYet call.client call.seq key ∷ []
said_of call receipts taken = []

-- what a client says, if it had a call and took something
abbrev pub said_by : Option Call → List Receipt → Option Taken → List Said
said_by (Some call) receipts (Some taken) = said_of call receipts taken
said_by call receipts taken = []

-- what is worn, if that is why something is refused
abbrev pub worn_by : StepError → Option ℕ
worn_by (errors.Worn number) = Some number
worn_by error = None

-- what is worn, by an answer
abbrev pub worn_in : {T : Type 0} → Result T StepError → Option ℕ
worn_in (Ok answer) = None
worn_in (Err error) = worn_by error

-- whether an event showed that a message was lost; an event that was refused showed nothing
abbrev pub lost_in : Result Stepped StepError → Bool
lost_in (Ok stepped) = stepped.seen.lost
lost_in (Err error) = false

-- what a client said of a message that it took in a lane, and who it was before
abbrev pub said_in : Session → Result Visited StepError → List Said
said_in session (Ok visited) = said_by session.outstanding visited.session.receipts visited.seen.taken
said_in session (Err error) = []

-- nothing occurred
abbrev pub idle : Cluster → Acted
idle cluster = record { cluster = cluster; came = []; said = []; worn = None }

-- an occurrence came, unless it was refused
abbrev pub came_in : {T : Type 0} → Occurrence → Result T StepError → List Occurrence
came_in occurrence (Ok answer) = occurrence ∷ []
came_in occurrence (Err error) = []

-- an occurrence left this cluster, by this answer, and this was said
abbrev pub acted_by : {T : Type 0} → Occurrence → Cluster → List Said → Result T StepError → Acted
acted_by occurrence cluster said answer =
    record { cluster = cluster; came = came_in occurrence answer; said = said; worn = worn_in answer }

-- an occurrence that no lane may refuse left this cluster
abbrev pub acted_well : Occurrence → Cluster → Acted
acted_well occurrence cluster = record { cluster = cluster; came = occurrence ∷ []; said = []; worn = None }

-- an occurrence, and what is said of it
abbrev pub acted : Cluster → Occurrence → Acted
acted cluster (Happens lane event called) =
    let stepped = step (lane_at cluster lane) event called in
    acted_by (Happens lane event called) (cluster_stepped cluster lane stepped) [] stepped
acted cluster (Joins client) = acted_well (Joins client) (cluster_after cluster (Joins client))
acted cluster (Calls client table key op) =
    acted_well (Calls client table key op) (cluster_after cluster (Calls client table key op))
acted cluster (Asks lane client) =
    let visited = ask (lane_at cluster lane) (session_at cluster client) in
    acted_by (Asks lane client) (cluster_visited cluster lane client visited) [] visited
acted cluster (Accepts lane number client) =
    let session = session_at cluster client in
    let visited = accept (lane_at cluster lane) number session in
    acted_by (Accepts lane number client) (cluster_visited cluster lane client visited) (said_in session visited) visited

-- what came and was said before, and what follows
abbrev pub behind : Acted → Acted → Acted
behind first later = record later { came = first.came ++ later.came; said = first.said ++ later.said }

-- what follows on an occurrence, unless a number was worn there
abbrev pub going_on : Acted → Option ℕ → (Cluster → Acted) → Acted
going_on first None next = behind first (next first.cluster)
going_on first (Some number) next = first

-- occurrences, one after the other, up to the first that meets a lane that is worn
abbrev pub all_acted : Cluster → List Occurrence → Acted
all_acted cluster [] = idle cluster
all_acted cluster (occurrence ∷ later) = going_on (acted cluster occurrence) (acted cluster occurrence).worn (λ next. all_acted next later)
