-- What clients said along a list of occurrences, and how a receipt is said.
use Rattle.std.specs.Prelude.{ℕ, ◌==◌, Bool, false, List, [], ◌∷◌, ◌++◌, filter, map}
use Rattle.rk_types.specs.declared.history.Receipt.{Receipt}
use Rattle.rk_types.specs.declared.node.Said.{Said}
use Rattle.rk_types.specs.declared.node.Said.TheVariants as says
use Rattle.rk_cluster.specs.Acted.{acted}
use Rattle.rk_world.specs.Cluster.{Cluster, Occurrence, cluster_after, session_at}

-- what clients said along occurrences
abbrev pub said_along : Cluster → List Occurrence → List Said
said_along cluster [] = []
said_along cluster (occurrence ∷ later) =
    (acted cluster occurrence).said ++ said_along (cluster_after cluster occurrence) later

-- the reply that reports a receipt
abbrev pub told_by : Receipt → Said
told_by receipt = says.Reply receipt.call.client receipt.call.seq receipt.outcome

-- whether a client says here that a call of its own was carried out
abbrev pub is_reply_to : ℕ → Said → Bool
is_reply_to client (says.Reply caller seq outcome) = caller == client
is_reply_to client said = false

-- the replies to a client's calls, among what was said
abbrev pub replies_to : ℕ → List Said → List Said
replies_to client said = filter (is_reply_to client) said

-- what a client's receipts report
abbrev pub told_to : Cluster → ℕ → List Said
told_to cluster client = map told_by (session_at cluster client).receipts
