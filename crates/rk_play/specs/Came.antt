-- What a command in code has come to.
use Rattle.std.specs.Prelude.{◌≡◌, ◌++◌, ℕ, List, [], Option, None, Some, ⊤}
use Rattle.rk_outside.specs.Segments.{Segments}
use Rattle.rk_world.specs.Cluster.{Cluster}
use Rattle.rk_cluster.specs.Faults.{CountsGoOn}
use Rattle.rk_cluster.specs.Replicas.{Fate}
use Rattle.rk_cluster.specs.State.{ClusterState, IsOf}
use Rattle.rk_cluster.specs.declared.code.Code.{Code}
use Rattle.rk_play.specs.Effects.{Effect, Stop}
use Rattle.rk_play.specs.Stops.{stop_by}
use Rattle.rk_play.specs.declared.error.PlayError.{PlayError}
use Rattle.rk_play.specs.declared.error.PlayError.TheVariants as errors

-- an effect in a cluster has this text, and ends the run or not; the cluster in code represents the cluster after it
pub record IsCome {R : Type 0} (segments : R → Option Segments) (state : ClusterState R) (text : List ℕ) (stop : Option Stop) (effect : Effect) : Type 0 where
  pub cluster : IsOf segments state effect.cluster
  pub text_is : effect.text ≡ text
  pub stop_is : effect.stop ≡ stop

-- by the fates of the calls of replicas, a command has made this of each cluster that the old one in code represented; for each call
-- that failed the count of its replica rose
pub record Came {R : Type 0} (segments : R → Option Segments) (faults : R → ℕ) (old new : ClusterState R) (effect_of : Cluster → List Fate → Effect) (text : List ℕ) (stop : Option Stop) : Type 0 where
  pub fates : List Fate
  pub counts : CountsGoOn faults fates old new
  pub comes : (cluster : Cluster) → IsOf segments old cluster → IsCome segments new text stop (effect_of cluster fates)

-- a command stopped the run for this reason; nothing is said if memory was wanting
abbrev pub Stopped : {R : Type 0} → (R → Option Segments) → (R → ℕ) → ClusterState R → ClusterState R → (Cluster → List Fate → Effect) → PlayError → Type 0
Stopped segments faults old new effect_of errors.NoMemory = ⊤
Stopped segments faults old new effect_of error = Came segments faults old new effect_of [] (Some (stop_by error))

-- a command has added its text to what was written before
pub record Ran {R : Type 0} (segments : R → Option Segments) (faults : R → ℕ) (old new : ClusterState R) (effect_of : Cluster → List Fate → Effect) (was now : List ℕ) : Type 0 where
  pub text : List ℕ
  pub added : now ≡ was ++ text
  pub came : Came segments faults old new effect_of text None

-- an error says that memory is wanting, or is a code of which this holds
abbrev pub WhereRefused : (Code → Type 0) → PlayError → Type 0
WhereRefused Holds errors.NoMemory = ⊤
WhereRefused Holds (errors.Refused code) = Holds code
WhereRefused Holds error = ⊥
