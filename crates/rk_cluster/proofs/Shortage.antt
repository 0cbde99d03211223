-- How calls that run out of memory end.
use Rattle.rk_cluster.proofs.Words.{arith, ◌≡◌, ℕ, List, [], ◌∷◌, ◌++◌, Option, None, Some, Result, Ok, Err, IfErr, OnErr, slice_get}
use Rattle.rk_cluster.proofs.Words.{slice_set, refl, sym, ap, subst, ◌∙◌, inl, append-nil, append_assoc, NumberMap, get, insert}
use Rattle.rk_cluster.proofs.Words.{Said, Segments, Session, Cluster, Occurrence, StepError, Event, Seen, IsRefused, IsSameLane, LaneState}
use Rattle.rk_cluster.proofs.Words.{Acts, ActsBy, ActsOne, AreCutShort, Carries, CutShortBy, AreButOne, HasTurnedOne, IsShortOf}
use Rattle.rk_cluster.proofs.Words.{ClusterState, IsOf, failure_of, state_of, ClusterError}
use Rattle.std.proofs.lemmas.Option.{none-some}
use Rattle.rk_lane.specs.Visits.{MayHaveTurned}
use Rattle.rk_cluster.specs.Effects.{IsCutShort}
use Rattle.rk_cluster.proofs.Carrying.{first_acts, none_acts}
use Rattle.rk_cluster.proofs.Worlds.{set_there}

-- what holds anyway holds of an error
pub on_err_anyway : {T E P : Type 0} (result : Result T E) → P → OnErr result P
on_err_anyway (Ok value) holds = tt
on_err_anyway (Err error) holds = holds

-- so does what follows of each error
pub on_err_from : {T E Q : Type 0} (result : Result T E) (P : E → Type 0) → ((e : E) → P e → Q) → IfErr result P → OnErr result Q
on_err_from (Ok value) P gives holds = tt
on_err_from (Err error) P gives holds = gives error holds

-- ---- lanes and sessions

-- nothing has changed
pub same_short : {R : Type 0} (state : ClusterState R) → IsShortOf state state
same_short state = record { lanes = inl refl; sessions = inl refl }

-- no session has
pub lanes_short : {R : Type 0} (old new : List (LaneState R)) (sessions : NumberMap Session) → AreButOne old new → IsShortOf (state_of old sessions) (state_of new sessions)
lanes_short old new sessions but = record { lanes = but; sessions = inl refl }

-- so all lanes are as they were, but for that one
pub stepped_short : {R : Type 0} (faults : R → ℕ) (event : Event) (lanes : List (LaneState R)) (place : ℕ) (old new : LaneState R) (answer : Result Seen StepError) (e : ClusterError)
    → slice_get lanes place ≡ Some old → IsSameLane old new → IfErr answer (IsRefused faults event old new) → failure_of answer ≡ Some e
    → AreButOne lanes (slice_set lanes place new)
stepped_short faults event lanes place old new answer e there same refused failed = grind (arith, none-some, slice_set, set_there)

-- a client that was refused has changed no lane
pub kept_short : {R : Type 0} (lanes : List (LaneState R)) (place : ℕ) (old new : LaneState R) (answer : Result Seen StepError) (e : ClusterError) → slice_get lanes place ≡ Some old
    → OnErr answer (new ≡ old) → failure_of answer ≡ Some e → slice_set lanes place new ≡ lanes
kept_short lanes place old new (Ok seen) e there kept failed = absurd (none-some e failed)
kept_short lanes place old new (Err error) e there kept failed = ap (slice_set lanes place) kept ∙ set_there lanes place old there

-- and has taken its turn at most
pub turned_short : (sessions : NumberMap Session) (client : ℕ) (session later : Session) (answer : Result Seen StepError) (e : ClusterError) → get sessions client ≡ Some session
    → OnErr answer (MayHaveTurned session later) → failure_of answer ≡ Some e → HasTurnedOne sessions (insert sessions client later)
turned_short sessions client session later answer e found turned failed = grind (arith, none-some)

module _ {R : Type 0} (segments : R → Option Segments) where
  -- ---- some occurrences, in each cluster

  -- none has come
  pub none_short : (old new : ClusterState R) (all : List Occurrence) → IsShortOf old new → AreCutShort segments old new all
  none_short old new all since = record { done = []; left = all; whole = refl; between = old; acts = none_acts segments old; since = since }

  -- these have come
  pub came_short : (old now new : ClusterState R) (done left : List Occurrence) → Carries segments old now done [] → IsShortOf now new → AreCutShort segments old new (done ++ left)
  came_short old now new done left carries since = record {
    done = done;
    left = left;
    whole = refl;
    between = now;
    acts = subst (λ (list : List Occurrence). Acts segments old now list [] None) (append-nil done) (carries now [] [] None (none_acts segments now));
    since = since;
  }

  -- these have come before
  pub behind_short : (old now new : ClusterState R) (first later : List Occurrence) → Carries segments old now first [] → AreCutShort segments now new later
      → AreCutShort segments old new (first ++ later)
  behind_short old now new first later carries it = record {
    done = first ++ it.done;
    left = it.left;
    whole = ap (λ (list : List Occurrence). first ++ list) it.whole ∙ sym (append_assoc first it.done it.left);
    between = it.between;
    acts = carries it.between it.done [] None it.acts;
    since = it.since;
  }

  -- others would have followed
  pub before_short : (old new : ClusterState R) (first later : List Occurrence) → AreCutShort segments old new first → AreCutShort segments old new (first ++ later)
  before_short old new first later it = grind (arith, append_assoc)

  -- one more has come
  pub carries_then : (old now next : ClusterState R) (all : List Occurrence) (occurrence : Occurrence) → Carries segments old now all [] → ActsOne segments now next occurrence [] None
      → Carries segments old next (all ++ occurrence ∷ []) []
  carries_then old now next all occurrence carries one final more told broken acts = search (append_assoc, first_acts)

  -- ---- what a call makes

  module _ (old new : ClusterState R) (makes : Cluster → List Occurrence) where
    -- nothing of it has come
    pub nothing_done : IsShortOf old new → CutShortBy segments old new makes
    nothing_done since cluster is =
        record { done = []; left = makes cluster; whole = refl; between = old; said = []; acts = none_acts segments old cluster is; since = since }

    -- all of it has
    pub all_done : (told : List Said) → ActsBy segments old new makes told None → CutShortBy segments old new makes
    all_done told acts cluster is = record {
      done = makes cluster;
      left = [];
      whole = sym (append-nil (makes cluster));
      between = new;
      said = told;
      acts = acts cluster is;
      since = same_short new;
    }

    -- it is these occurrences
    pub made_short : (all : List Occurrence) → ((cluster : Cluster) → IsOf segments old cluster → makes cluster ≡ all) → AreCutShort segments old new all
        → CutShortBy segments old new makes
    made_short all made it cluster is = record {
      done = it.done;
      left = it.left;
      whole = made cluster is ∙ it.whole;
      between = it.between;
      said = [];
      acts = it.acts cluster is;
      since = it.since;
    }

    -- it is the same as another makes
    pub as_short : (other : Cluster → List Occurrence) → ((cluster : Cluster) → IsOf segments old cluster → makes cluster ≡ other cluster) → CutShortBy segments old new other
        → CutShortBy segments old new makes
    as_short other same it cluster is = subst (IsCutShort segments cluster new) (sym (same cluster is)) (it cluster is)
