-- A ready cluster stays ready while what occurs in it is work.
use Rattle.std.proofs.Common.{◌≡◌, ℕ, true, List, [], ◌∷◌, Option, Some, None, is_some, refl, sym, subst, ◌∙◌}
use Rattle.std.proofs.lemmas.Bool.{and_parts}
use Rattle.rk_types.specs.NumberMap.{get}
use Rattle.rk_world.specs.Client.{Session}
use Rattle.rk_world.specs.Cluster.{Accepts, Asks, Calls, Cluster, ClusterMay, Happens, Joins, KeepsCalm, Occurrence, cluster_after, cluster_run, lane_at}
use Rattle.rk_world.specs.ClusterRuns.{IsRun, ReplicasTell}
use Rattle.rk_world.specs.Refusals.{refusal}
use Rattle.rk_laws_drives.specs.Ready.{AreReady, StaysReady}
use Rattle.rk_laws_drives.specs.Work.{are_work, is_work}
use Rattle.rk_laws_drives.proofs.Events.{event_keeps}
use Rattle.rk_laws_drives.proofs.Visits.{accepts_nothing, asks_nothing}

module _ (masters : ℕ) (cluster : Cluster) (ready : AreReady masters cluster) where
  -- what leaves the cluster as it was
  same_keeps : (after : Cluster) → after ≡ cluster → StaysReady masters cluster after
  same_keeps after is = subst (StaysReady masters cluster) (sym is) (record { ready = ready; sessions = refl })

  -- a client that has a session has one without an outstanding call
  visit_keeps : (client : ℕ) (occurrence : Occurrence)
      → ((session : Session) → get cluster.sessions client ≡ Some session → session.outstanding ≡ None → cluster_after cluster occurrence ≡ cluster)
      → (found : Option Session) → get cluster.sessions client ≡ found → is_some found ≡ true
      → StaysReady masters cluster (cluster_after cluster occurrence)
  visit_keeps client occurrence nothing None is there = absurd (cc there)
  visit_keeps client occurrence nothing (Some session) is there =
      same_keeps (cluster_after cluster occurrence) (nothing session is (ready.ended client session is).answered)

  one_keeps : (occurrence : Occurrence) → is_work cluster occurrence ≡ true → ClusterMay cluster occurrence → KeepsCalm cluster occurrence
      → ReplicasTell cluster occurrence → StaysReady masters cluster (cluster_after cluster occurrence)
  one_keeps (Happens lane event called) work may calm tell =
      event_keeps masters cluster ready lane may.0 event called may.1 may.2 (tell (ready.lanes lane may.0).steady.tell) calm
      (refusal (lane_at cluster lane) event) refl
  one_keeps (Joins client) work may calm tell = absurd (cc work)
  one_keeps (Calls client table key op) work may calm tell = absurd (cc work)
  one_keeps (Asks lane client) work may calm tell =
      visit_keeps client (Asks lane client) (λ session found none. asks_nothing cluster client session ready.order found none lane)
      (get cluster.sessions client) refl work
  one_keeps (Accepts lane number client) work may calm tell =
      visit_keeps client (Accepts lane number client)
      (λ session found none. accepts_nothing cluster client session ready.order found none lane number)
      (get cluster.sessions client) refl work

pub work_keeps : (masters : ℕ) (cluster : Cluster) (list : List Occurrence) → AreReady masters cluster → IsRun cluster list → are_work cluster list ≡ true
    → StaysReady masters cluster (cluster_run cluster list)
work_keeps masters cluster [] ready run work = record { ready = ready; sessions = refl }
work_keeps masters cluster (occurrence ∷ later) ready run work =
    let parts = and_parts (is_work cluster occurrence) (are_work (cluster_after cluster occurrence) later) work in
    let first = one_keeps masters cluster ready occurrence parts.0 run.0 run.1 run.2 in
    let rest = work_keeps masters (cluster_after cluster occurrence) later first.ready run.3 parts.1 in
    record { ready = rest.ready; sessions = rest.sessions ∙ first.sessions }
