-- What a call makes of a cluster in code.
use Rattle.std.specs.Prelude.{◌≡◌, ℕ, List, [], ◌++◌, Option, None, Some}
use Rattle.rk_types.specs.declared.node.Said.{Said}
use Rattle.rk_outside.specs.Segments.{Segments}
use Rattle.rk_world.specs.Cluster.{Cluster, Occurrence, cluster_run}
use Rattle.rk_world.specs.ClusterRuns.{IsRun}
use Rattle.rk_cluster.specs.Acted.{Acted, acted, all_acted}
use Rattle.rk_cluster.specs.Spending.{IsShortOf}
use Rattle.rk_cluster.specs.State.{ClusterState, IsOf}
use Rattle.rk_cluster.specs.declared.code.Code.{Code}
use Rattle.rk_cluster.specs.declared.error.ClusterError.{ClusterError}
use Rattle.rk_cluster.specs.declared.error.ClusterError.TheVariants as errors

-- these occurrences are a run of one cluster, and lead to another
pub record RunsTo (before : Cluster) (occurred : List Occurrence) (after : Cluster) : Type 0 where
  pub run : IsRun before occurred
  pub is : after ≡ cluster_run before occurred

-- this came of some events in a cluster: the cluster in code stands for the cluster after them, to which those that came lead, this was
-- said, and this is worn
pub record IsActedAs {R : Type 0} (segments : R → Option Segments) (before : Cluster) (state : ClusterState R) (told : List Said) (broken : Option ℕ) (it : Acted) : Type 0 where
  pub cluster : IsOf segments state it.cluster
  pub leads : RunsTo before it.came it.cluster
  pub said : it.said ≡ told
  pub worn : it.worn ≡ broken

-- of each cluster that the old cluster in code stood for, an occurrence makes a cluster that the new one stands for
abbrev pub ActsOne : {R : Type 0} → (R → Option Segments) → ClusterState R → ClusterState R → Occurrence → List Said → Option ℕ → Type 0
ActsOne segments old new occurrence told broken =
    (cluster : Cluster) → IsOf segments old cluster → IsActedAs segments cluster new told broken (acted cluster occurrence)

-- so does an occurrence that the cluster determines
abbrev pub ActsAs : {R : Type 0} → (R → Option Segments) → ClusterState R → ClusterState R → (Cluster → Occurrence) → List Said → Option ℕ → Type 0
ActsAs segments old new occurrence_of told broken =
    (cluster : Cluster) → IsOf segments old cluster → IsActedAs segments cluster new told broken (acted cluster (occurrence_of cluster))

-- so do these occurrences, one after the other
abbrev pub Acts : {R : Type 0} → (R → Option Segments) → ClusterState R → ClusterState R → List Occurrence → List Said → Option ℕ → Type 0
Acts segments old new occurrences told broken =
    (cluster : Cluster) → IsOf segments old cluster → IsActedAs segments cluster new told broken (all_acted cluster occurrences)

-- of all occurrences these are left: what comes of these, and more behind them, comes of all and more
abbrev pub Carries : {R : Type 0} → (R → Option Segments) → ClusterState R → ClusterState R → List Occurrence → List Occurrence → Type 0
Carries {R} segments old now all left =
    (final : ClusterState R) (more : List Occurrence) (told : List Said) (broken : Option ℕ)
    → Acts segments now final (left ++ more) told broken → Acts segments old final (all ++ more) told broken

-- what a call makes of a cluster comes of it
abbrev pub ActsBy : {R : Type 0} → (R → Option Segments) → ClusterState R → ClusterState R → (Cluster → List Occurrence) → List Said → Option ℕ → Type 0
ActsBy segments old new makes told broken =
    (cluster : Cluster) → IsOf segments old cluster → IsActedAs segments cluster new told broken (all_acted cluster (makes cluster))

-- the code of a call is this, or it has none
abbrev pub HasCode : {R : Type 0} → (R → Option Segments) → ClusterState R → (Cluster → Option Code) → Option Code → Type 0
HasCode segments state code_of code = (cluster : Cluster) → IsOf segments state cluster → code_of cluster ≡ code

-- a call is carried out: it has no code, and what it makes has come
pub record IsCarriedOut {R : Type 0} (segments : R → Option Segments) (old new : ClusterState R) (code_of : Cluster → Option Code) (makes : Cluster → List Occurrence) (told : List Said) : Type 0 where
  pub code : HasCode segments old code_of None
  pub acts : ActsBy segments old new makes told None

-- some occurrences were cut short by want of memory: a first part of them came in a cluster, and led to a cluster that a cluster in code
-- stood for; in that one memory was wanting
pub record IsCutShort {R : Type 0} (segments : R → Option Segments) (before : Cluster) (state : ClusterState R) (all : List Occurrence) : Type 0 where
  pub done : List Occurrence
  pub left : List Occurrence
  pub whole : all ≡ done ++ left
  pub between : ClusterState R
  pub said : List Said
  pub acts : IsActedAs segments before between said None (all_acted before done)
  pub since : IsShortOf between state

-- so was what a call makes of a cluster
abbrev pub CutShortBy : {R : Type 0} → (R → Option Segments) → ClusterState R → ClusterState R → (Cluster → List Occurrence) → Type 0
CutShortBy segments old new makes = (cluster : Cluster) → IsOf segments old cluster → IsCutShort segments cluster new (makes cluster)

-- so were these occurrences, in each cluster after the same ones
pub record AreCutShort {R : Type 0} (segments : R → Option Segments) (old new : ClusterState R) (all : List Occurrence) : Type 0 where
  pub done : List Occurrence
  pub left : List Occurrence
  pub whole : all ≡ done ++ left
  pub between : ClusterState R
  pub acts : Acts segments old between done [] None
  pub since : IsShortOf between new

-- a call ends in an error: it is refused by its code and changes nothing, or a lane is worn, and what came before has happened; or memory
-- was wanting, and a first part of what it makes has happened
abbrev pub EndsIn : {R : Type 0} → (R → Option Segments) → ClusterState R → ClusterState R → (Cluster → Option Code) → (Cluster → List Occurrence) → ClusterError → Type 0
EndsIn segments old new code_of makes (errors.Code code) = HasCode segments old code_of (Some code) × (new ≡ old)
EndsIn segments old new code_of makes (errors.Worn number) =
    HasCode segments old code_of None × ActsBy segments old new makes [] (Some number)
EndsIn segments old new code_of makes errors.NoMemory = CutShortBy segments old new makes
