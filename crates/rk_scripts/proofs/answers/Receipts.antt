-- The replies that clients said are their receipts.
use Rattle.std.proofs.Common.{arith, ◌≡◌, ℕ, List, [], ◌∷◌, ◌++◌, map, Option, None, Some, refl, sym, ap, subst, ◌∙◌, ⊎_elim, append-nil}
use Rattle.std.proofs.Common.{append_assoc, Err, Ok, Result, unwrap_or}
use Rattle.rk_scripts.proofs.Words.{cases_eq, filter-append, get, get_other, get_same, Said, StepError, accept_by, accepting, ask_by}
use Rattle.rk_scripts.proofs.Words.{asking, Session, busy, new_session, session_calling, Accepts, Asks, Calls, Cluster, Happens, Joins}
use Rattle.rk_scripts.proofs.Words.{Occurrence, called_by_client, cluster_after, cluster_run, cluster_stepped, cluster_visited, joined_by}
use Rattle.rk_scripts.proofs.Words.{lane_at, new_cluster, session_at, with_lane, with_session, accept_refusal, ask_refusal, Stepped, step}
use Rattle.rk_scripts.proofs.Words.{acted, said_in, is_reply_to, replies_to, said_along, told_by, told_to}
use Rattle.rk_scripts.proofs.answers.Telling.{IsOwn, Tells, accepting_tells, asking_tells, calling_tells}

-- each client's session is its own
abbrev AreOwn : Cluster → Type 0
AreOwn cluster = (client : ℕ) → IsOwn client (session_at cluster client)

-- a cluster after something was said: each session is still its client's own, and what was said reports the new receipts
record Hears (before after : Cluster) (said : List Said) : Type 0 where
  own : AreOwn after
  told : (client : ℕ) → told_to after client ≡ told_to before client ++ replies_to client said

-- a cluster with the same sessions hears nothing
hears_nothing : (before after : Cluster) → AreOwn before → after.sessions ≡ before.sessions → Hears before after []
hears_nothing before after own same = grind (arith, new_session, told_by, append-nil, told_to)

-- a client's session is another one, in a cluster whose sessions were these
module _ (before now : Cluster) (client : ℕ) (after : Session) (said : List Said) (own : AreOwn before)
    (same : now.sessions ≡ before.sessions) (tells : Tells client (session_at before client) after said) where
  session_here : (other : ℕ) → other ≡ client → session_at (with_session now client after) other ≡ after
  session_here other is = ap (λ (found : Option Session). unwrap_or found (new_session other)) (get_same now.sessions client after other is)

  session_beside : (other : ℕ) → (other ≡ client → ⊥) → session_at (with_session now client after) other ≡ session_at before other
  session_beside other apart = grind (arith, new_session, get_other)

  hears_told : Hears before (with_session now client after) said
  hears_told = record {
    own = λ other.
        ⊎_elim
        (λ (is : other ≡ client). subst (IsOwn other) (sym (session_here other is)) (subst (λ (c : ℕ). IsOwn c after) (sym is) tells.own))
        (λ (apart : other ≡ client → ⊥). subst (IsOwn other) (sym (session_beside other apart)) (own other))
        (cases_eq other client);
    told = λ other.
        ⊎_elim
        (λ (is : other ≡ client).
        ap (λ (session : Session). map told_by session.receipts) (session_here other is) ∙ tells.told
        ∙ ap (λ (c : ℕ). told_to before c ++ replies_to c said) (sym is))
        (λ (apart : other ≡ client → ⊥).
        ap (λ (session : Session). map told_by session.receipts) (session_beside other apart)
        ∙ sym (append-nil (told_to before other))
        ∙ ap (λ (more : List Said). told_to before other ++ more) (sym (tells.alone other (λ is. apart (sym is)))))
        (cases_eq other client);
  }

-- whatever occurs, what was said of it reports the new receipts
hears_one : (cluster : Cluster) (occurrence : Occurrence) → AreOwn cluster
    → Hears cluster (cluster_after cluster occurrence) (acted cluster occurrence).said
hears_one cluster (Happens lane event called) own = go (step (lane_at cluster lane) event called)
  where
    go : (answer : Result Stepped StepError) → Hears cluster (cluster_stepped cluster lane answer) []
    go (Ok stepped) = hears_nothing cluster (cluster_stepped cluster lane (Ok stepped)) own refl
    go (Err error) = hears_nothing cluster cluster own refl
hears_one cluster (Joins client) own = go (get cluster.sessions client) refl
  where
    go : (found : Option Session) → get cluster.sessions client ≡ found → Hears cluster (joined_by cluster client found) []
    go None is =
        let new : session_at cluster client ≡ new_session client = ap (λ (o : Option Session). unwrap_or o (new_session client)) is in
        hears_told cluster cluster client (new_session client) [] own refl
        (subst (λ (session : Session). Tells client session (new_session client) []) (sym new)
        (record { own = record { client_is = refl; call_is = tt }; told = refl; alone = λ other apart. refl }))
    go (Some session) is = hears_nothing cluster cluster own refl
hears_one cluster (Calls client table key op) own = go (get cluster.sessions client) refl
  where
    go : (found : Option Session) → get cluster.sessions client ≡ found
        → Hears cluster (called_by_client cluster client table key op found) []
    go None is = hears_nothing cluster cluster own refl
    go (Some session) is =
        let here : session_at cluster client ≡ session = ap (λ (o : Option Session). unwrap_or o (new_session client)) is in
        hears_told cluster cluster client (session_calling session table key op (busy session)) [] own refl
        (subst (λ (before : Session). Tells client before (session_calling session table key op (busy session)) []) (sym here)
        (calling_tells client session table key op (busy session) (subst (IsOwn client) here (own client))))
hears_one cluster (Asks lane client) own = go (ask_refusal (lane_at cluster lane) (session_at cluster client))
  where
    go : (refused : Option StepError)
        → Hears cluster (cluster_visited cluster lane client (ask_by (lane_at cluster lane) (session_at cluster client) refused)) []
    go None =
        let session : Session = session_at cluster client in
        let visited = asking (lane_at cluster lane) session session.outstanding in
        hears_told cluster (with_lane cluster lane visited.world) client visited.session [] own refl
        (asking_tells (lane_at cluster lane) session client (own client))
    go (Some error) = hears_nothing cluster cluster own refl
hears_one cluster (Accepts lane number client) own =
    let found = get (lane_at cluster lane).wire.messages number in
    go (accept_refusal (lane_at cluster lane) number (session_at cluster client).client found)
  where
    go : (refused : Option StepError)
        → Hears cluster (cluster_visited cluster lane client (accept_by (lane_at cluster lane) number (session_at cluster client) refused))
        (said_in (session_at cluster client) (accept_by (lane_at cluster lane) number (session_at cluster client) refused))
    go None =
        let session : Session = session_at cluster client in
        let found = get (lane_at cluster lane).wire.messages number in
        let visited = accepting (lane_at cluster lane) session found in
        hears_told cluster (with_lane cluster lane visited.world) client visited.session (said_in session (Ok visited)) own refl
        (accepting_tells (lane_at cluster lane) client session (own client) found)
    go (Some error) = hears_nothing cluster cluster own refl

-- along occurrences, what was said reports the new receipts
hears_all : (start : Cluster) (occurred : List Occurrence) (client : ℕ) → AreOwn start
    → told_to (cluster_run start occurred) client ≡ told_to start client ++ replies_to client (said_along start occurred)
hears_all start [] client own = sym (append-nil (told_to start client))
hears_all start (occurrence ∷ later) client own =
    let first = hears_one start occurrence own in
    let next : Cluster = cluster_after start occurrence in
    let said : List Said = (acted start occurrence).said in
    hears_all next later client first.own
    ∙ ap (λ (told : List Said). told ++ replies_to client (said_along next later)) (first.told client)
    ∙ append_assoc (told_to start client) (replies_to client said) (replies_to client (said_along next later))
    ∙ ap (λ (more : List Said). told_to start client ++ more) (sym (filter-append (is_reply_to client) said (said_along next later)))

-- what clients said in a run of a new cluster reports their receipts, client by client and in their order
pub receipts_said : (masters backups : ℕ) (occurred : List Occurrence) (client : ℕ)
    → told_to (cluster_run (new_cluster masters backups) occurred) client
    ≡ replies_to client (said_along (new_cluster masters backups) occurred)
receipts_said masters backups occurred client =
    hears_all (new_cluster masters backups) occurred client (λ other. record { client_is = refl; call_is = tt })
