-- How the commands of a script end in code.
use Rattle.std.specs.Prelude.{◌≡◌, ◌≢◌, ◌≤◌, ℕ, List, [], ◌∷◌, ◌++◌, Option}
use Rattle.std.specs.List.{concat}
use Rattle.rk_outside.specs.Faults.{Rose}
use Rattle.rk_outside.specs.Parts.{AppendsPart}
use Rattle.rk_outside.specs.Segments.{Segments}
use Rattle.rk_world.specs.Cluster.{Cluster, Occurrence}
use Rattle.rk_cluster.specs.Faults.{CountsGoOn}
use Rattle.rk_cluster.specs.Replicas.{Fate}
use Rattle.rk_cluster.specs.State.{ClusterState, IsOf}
use Rattle.rk_script.specs.declared.command.Numbered.{Numbered}
use Rattle.rk_play.specs.Effects.{Stop}
use Rattle.rk_play.specs.Played.{Played, all_fates, behind, played_in, stopped_at}
use Rattle.rk_play.specs.Reached.{IsOn, IsSent, Reached}
use Rattle.rk_play.specs.Stops.{stop_by}
use Rattle.rk_play.specs.declared.end.End.{End}
use Rattle.rk_play.specs.declared.end.End.TheVariants as ends
use Rattle.rk_play.specs.declared.error.PlayError.{PlayError}
use Rattle.rk_play.specs.declared.error.PlayError.TheVariants as errors

-- before a command memory was wanting, or in it
pub record IsHalted {R : Type 0} (segments : R → Option Segments) (faults : R → ℕ) (old : ClusterState R) (all : List Numbered) (was written : Option (List ℕ)) : Type 0 where
  pub now : ClusterState R
  pub first : Numbered
  pub others : List Numbered
  pub held : List ℕ
  pub on : IsOn segments faults old now all (first ∷ others) was written held

-- before a command the sink failed: it has a part of what was written
pub record HasFailed {R : Type 0} (segments : R → Option Segments) (faults : R → ℕ) (old now : ClusterState R) (all : List Numbered) (was written : Option (List ℕ)) : Type 0 where
  pub ran : List Numbered
  pub left : List Numbered
  pub whole : ran ++ left ≡ all
  pub pieces : List (List ℕ)
  pub reached : Reached segments faults old now ran pieces
  pub put : AppendsPart was written (concat pieces)

-- a run played has written these pieces and stops at a line, with a cluster that the one in code represents
pub record StopsAt {R : Type 0} (segments : R → Option Segments) (now : ClusterState R) (line : ℕ) (stop : Stop) (pieces : List (List ℕ)) (played : Played) : Type 0 where
  pub cluster : Cluster
  pub is : IsOf segments now cluster
  pub occurred : List Occurrence
  pub stops : played ≡ behind pieces occurred (stopped_at line stop cluster)

-- by the fates of the calls of replicas the run stops at a line, and not for want of memory; before that command the others had run
pub record HasStopped {R : Type 0} (segments : R → Option Segments) (faults : R → ℕ) (old now : ClusterState R) (all : List Numbered) (line : ℕ) (error : PlayError) (was written : Option (List ℕ)) (held : List ℕ) : Type 0 where
  pub apart : error ≢ errors.NoMemory
  pub before : IsHalted segments faults old all was written
  pub pieces : List (List ℕ)
  pub sent : IsSent was written pieces held
  pub fates : List (List Fate)
  pub counts : CountsGoOn faults (all_fates fates) old now
  pub stopped : (cluster : Cluster) → IsOf segments old cluster → StopsAt segments now line (stop_by error) pieces (played_in all fates cluster)

-- how the commands end
abbrev pub EndsBy : {R : Type 0} → (R → Option Segments) → (R → ℕ) → ClusterState R → ClusterState R → List Numbered → Option (List ℕ) → Option (List ℕ) → List ℕ → End → Type 0
EndsBy segments faults old now all was written held ends.Done = IsOn segments faults old now all [] was written held
EndsBy segments faults old now all was written held (ends.Stopped line error) = HasStopped segments faults old now all line error was written held
EndsBy segments faults old now all was written held ends.WriteFault = HasFailed segments faults old now all was written
EndsBy segments faults old now all was written held ends.NoMemory = IsHalted segments faults old all was written

-- how they end at the command of a line, which stops the run for this reason
abbrev pub end_by : ℕ → PlayError → End
end_by line errors.NoMemory = ends.NoMemory
end_by line error = ends.Stopped line error

-- the count of a sink's faults rose if it failed, and else it stays
pub record HasEndCause (end : End) (before now : ℕ) : Type 0 where
  pub later : before ≤ now
  pub kept : (end ≡ ends.WriteFault → ⊥) → now ≡ before
  pub rose : end ≡ ends.WriteFault → Rose before now
