-- Occurrences that are allowed at any time go on with a run.
use Rattle.std.proofs.Common.{arith, ◌≡◌, ℕ, ◌<◌, List, [], ◌∷◌, Option, Some, None, sym, subst, IfSome, All}
use Rattle.rk_scripts.proofs.Words.{All-head, All-nil, All-tail, Call, Ended, LANES, accept, ask, Accepts, Asks, Calls, Cluster, Happens}
use Rattle.rk_scripts.proofs.Words.{Joins, Occurrence, cluster_after, lane_at, session_at, MayHappen, step, World, new_world, Event, acted}
use Rattle.rk_scripts.proofs.Words.{all_acted, deliver_in_makes, Fate, IsAllowed, IsNoCrash, came_is}
use Rattle.rk_world.specs.Base.{Base, no_base}
use Rattle.rk_world.specs.Premises.{IsAfterStart}
use Rattle.rk_world.specs.Runs.{IsCalmEvent}
use Rattle.rk_settle.proofs.Occurred.{AreToldFrom, IsToldAt, all_come, delivered_allowed, delivered_told}
use Rattle.rk_scripts.proofs.play.Answering.{told_comes}
use Rattle.rk_scripts.proofs.play.Reaching.{GoesOn, IsReached, MayBe, all_on, lane_good, lane_there, none_on, one_on}

-- an occurrence that may come at any time, and calls no replica
abbrev pub IsFree : ℕ → Occurrence → Type 0
IsFree masters occurrence = IsAllowed masters occurrence × ((cluster : Cluster) → IsToldAt cluster occurrence)

-- what an event may name depends on how many masters there are
may_in : (masters : ℕ) (w : World) (event : Event) → w.coordinator.masters ≡ masters → MayHappen (new_world 0 masters 0) event → MayHappen w event
may_in masters w event is may = grind arith

calm_in : (w : World) (event : Event) → IsNoCrash event → IsCalmEvent w event
calm_in w (Event.Crash master) calm = absurd calm
calm_in w event calm = tt

-- each call comes after a start from nothing
after_nothing : (call : Option Call) → IfSome call (IsAfterStart no_base)
after_nothing None = tt
after_nothing (Some call) = All-nil (λ (end : Ended). end.client ≡ call.client → end.seq < call.seq)

module _ (masters backups : ℕ) where
  -- what may come to a cluster that a run has come to, with what a replica answers
  pub allowed_may : (cluster : Cluster) (occurrence : Occurrence) → IsAllowed masters occurrence → IsToldAt cluster occurrence → IsReached masters backups cluster
      → MayBe masters backups cluster occurrence
  allowed_may cluster (Happens lane event called) allowed told reached =
      let good = lane_good masters backups cluster reached lane allowed.0 in
      record {
        may = (
          lane_there masters backups cluster reached lane allowed.0,
          may_in masters (lane_at cluster lane) event good.masters_are allowed.2,
          told_comes (lane_at cluster lane) good.sound good.formed good.room event called told,
        );
        calm = calm_in (lane_at cluster lane) event allowed.1;
        told = λ all. told;
      }
  allowed_may cluster (Joins client) allowed told reached = record { may = allowed; calm = tt; told = tt }
  allowed_may cluster (Calls client table key op) allowed told reached = absurd allowed
  allowed_may cluster (Asks lane client) allowed told reached = record {
    may = (
      lane_there masters backups cluster reached lane allowed,
      subst (λ (base : Base). IfSome (session_at cluster client).outstanding (IsAfterStart base))
          (sym (lane_good masters backups cluster reached lane allowed).base_is) (after_nothing (session_at cluster client).outstanding),
    );
    calm = tt;
    told = tt;
  }
  allowed_may cluster (Accepts lane number client) allowed told reached = search lane_there

  -- occurrences of this kind go on with a run, if replicas answer what they store
  pub allowed_on : (cluster : Cluster) (list : List Occurrence) → All (IsAllowed masters) list → AreToldFrom cluster list → GoesOn masters backups cluster list
  allowed_on cluster [] allowed told = none_on masters backups cluster
  allowed_on cluster (occurrence ∷ later) allowed told = one_on masters backups cluster occurrence later
      (allowed_may cluster occurrence (All-head (IsAllowed masters) occurrence later allowed) told.0)
      (allowed_on (cluster_after cluster occurrence) later (All-tail (IsAllowed masters) occurrence later allowed) told.1)

  first_on : (cluster : Cluster) (occurrence : Occurrence) → (IsReached masters backups cluster → MayBe masters backups cluster occurrence) → GoesOn masters backups cluster (acted cluster occurrence).came
  first_on cluster occurrence may = grind (arith, step, lane_at, ask, session_at, accept, one_on, none_on, cluster_after)

  -- those go on with a run that come of an occurrence that may come, and of those behind it
  pub came_first : (cluster : Cluster) (occurrence : Occurrence) (later : List Occurrence) → (IsReached masters backups cluster → MayBe masters backups cluster occurrence)
      → GoesOn masters backups (acted cluster occurrence).cluster (all_acted (acted cluster occurrence).cluster later).came
      → GoesOn masters backups cluster (all_acted cluster (occurrence ∷ later)).came
  came_first cluster occurrence later may rest = grind (arith, acted, first_on, all_on, all_acted, came_is)

  -- so do those that come of some that call no replica
  pub came_on : (cluster : Cluster) (list : List Occurrence) → All (IsFree masters) list → GoesOn masters backups cluster (all_acted cluster list).came
  came_on cluster [] free = none_on masters backups cluster
  came_on cluster (occurrence ∷ later) free =
      let first : IsFree masters occurrence = All-head (IsFree masters) occurrence later free in
      came_first cluster occurrence later (allowed_may cluster occurrence first.0 (first.1 cluster))
      (came_on (acted cluster occurrence).cluster later (All-tail (IsFree masters) occurrence later free))

  -- and so does what comes of the delivery of a message, whatever becomes of the call of a replica
  pub delivered_on : (cluster : Cluster) (lane number : ℕ) (fate : Fate) → lane < LANES → GoesOn masters backups cluster (all_acted cluster (deliver_in_makes cluster lane number fate)).came
  delivered_on cluster lane number fate inside =
      grind (arith, allowed_on, all_acted, deliver_in_makes, all_come, delivered_allowed, delivered_told)
