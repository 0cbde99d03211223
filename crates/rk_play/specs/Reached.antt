-- How far the commands of a script have come in code.
use Rattle.std.specs.Prelude.{◌≡◌, ◌≤◌, ℕ, Bool, true, false, List, [], ◌++◌, drop, length, take, Option}
use Rattle.std.specs.List.{concat}
use Rattle.std.specs.Io.KnownBytes.{Appends, Keeps}
use Rattle.rk_outside.specs.Segments.{Segments}
use Rattle.rk_world.specs.Cluster.{Cluster, Occurrence}
use Rattle.rk_cluster.specs.Faults.{CountsGoOn}
use Rattle.rk_cluster.specs.Replicas.{Fate}
use Rattle.rk_cluster.specs.State.{ClusterState, IsOf}
use Rattle.rk_script.specs.declared.command.Numbered.{Numbered}
use Rattle.rk_play.specs.Played.{all_fates, behind, played_in}

-- these commands, played in a cluster by these fates, write these pieces, and leave a cluster that the one in code represents, in which
-- whatever follows is played by the fates that follow
pub record IsReached {R : Type 0} (segments : R → Option Segments) (start : Cluster) (now : ClusterState R) (ran : List Numbered) (fates : List (List Fate)) (pieces : List (List ℕ)) : Type 0 where
  pub cluster : Cluster
  pub is : IsOf segments now cluster
  pub occurred : List Occurrence
  pub goes_on : (left : List Numbered) (later : List (List Fate))
      → played_in (ran ++ left) (fates ++ later) start ≡ behind pieces occurred (played_in left later cluster)

-- by the fates of the calls of replicas, these commands have run and have written these pieces; for each call that failed the count of its
-- replica rose
pub record Reached {R : Type 0} (segments : R → Option Segments) (faults : R → ℕ) (old now : ClusterState R) (ran : List Numbered) (pieces : List (List ℕ)) : Type 0 where
  pub fates : List (List Fate)
  pub counts : CountsGoOn faults (all_fates fates) old now
  pub reached : (cluster : Cluster) → IsOf segments old cluster → IsReached segments cluster now ran fates pieces

-- of pieces so many were put into a sink, and the rest is held back
pub record IsSent (old now : Option (List ℕ)) (pieces : List (List ℕ)) (held : List ℕ) : Type 0 where
  pub sent : ℕ
  pub few : sent ≤ length pieces
  pub written : Appends old now (concat (take sent pieces))
  pub rest : held ≡ concat (drop sent pieces)

-- these commands are left of all, and of what the others have written a part is held back
pub record IsOn {R : Type 0} (segments : R → Option Segments) (faults : R → ℕ) (old now : ClusterState R) (all left : List Numbered) (was written : Option (List ℕ)) (held : List ℕ) : Type 0 where
  pub ran : List Numbered
  pub whole : ran ++ left ≡ all
  pub pieces : List (List ℕ)
  pub reached : Reached segments faults old now ran pieces
  pub sent : IsSent was written pieces held

-- what was held back is still held back if it is less than a piece, and else all of it was put into the sink
abbrev pub Spills : Bool → Option (List ℕ) → Option (List ℕ) → List ℕ → List ℕ → Type 0
Spills true old new was now = Keeps old new × (now ≡ was)
Spills false old new was now = Appends old new was × (now ≡ [])
