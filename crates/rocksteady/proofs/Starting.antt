-- How the program starts: over replicas that are new, or without memory.
use Rattle.std.proofs.Common.{◌≡◌, List, [], ◌∷◌, ℕ, ap, inl, refl, ◌∙◌, arith}
use Rattle.std.specs.Prelude.{Option, None, Some, IfOk, IfSome, Result, Ok, Err}
use Rattle.std.specs.List.{All}
use Rattle.std.specs.FinMap.{get-empty}
use Rattle.std.proofs.lemmas.List.Elements.{All-cons, All-head, All-nil, All-tail}
use Rattle.rk_types.specs.declared.status.Status.{Status}
use Rattle.rk_types.specs.declared.status.Status.TheVariants.{Done, NoMemory}
use Rattle.rk_outside.specs.Replicas.{ReplicaState, new_replica, place_cmp, segments_of}
use Rattle.rk_outside.specs.Segments.{Segments}
use Rattle.rk_world.specs.Backup.{no_segments}
use Rattle.rk_cluster.specs.Fresh.{AreEmpty}
use Rattle.rk_scripts.proofs.answers.Playing.{script_answers}
use Rattle.rk_script.specs.Script.{script_of}
use Rattle.rk_scripts.proofs.play.Playing.{scripts_historical}
use Rattle.rk_play.proofs.Concluding.{halts_at_once}
use Rattle.rk_script.specs.declared.code.Code.{Code}
use Rattle.rk_drive.specs.Outcomes.{Drives, EndsDone}
use Rattle.rk_drive.specs.declared.plan.Plan.{Plan}
use Rattle.rocksteady.specs.Run.{DrivesOver, IsPlayed, PlaysOneMap}

-- if memory is wanting at once, nothing was written: none of the script's commands was played
pub halts_told : (told old : Option (List ℕ)) → IfSome told (λ script. IsPlayed script NoMemory old old)
halts_told None old = tt
halts_told (Some script) old = record {
  part = Some 0;
  may = omega arith;
  fates = [];
  runs = halts_at_once (script_of script) old;
  answers = script_answers script (Some 0) [];
  historical = scripts_historical script (Some 0) [];
}

-- a run over replicas that reported so is a run played
pub played_told : {R : Type 0} (segments : R → Option Segments) (faults : R → ℕ) (told : Option (List ℕ)) (status : Status) (old new : Option (List ℕ)) (before after : List R)
    → IfSome told (λ script. PlaysOneMap segments faults script status old new before after) → IfSome told (λ script. IsPlayed script status old new)
played_told segments faults None status old new before after it = tt
played_told segments faults (Some script) status old new before after it =
    record { part = it.plays.part; may = it.plays.may; fates = it.plays.fates; runs = it.plays.runs; answers = it.answers; historical = it.historical }

-- a replica that is new reports that nothing was written
new_tells : (replica : ReplicaState) → replica ≡ new_replica → segments_of replica ≡ no_segments
new_tells replica is = ap segments_of is ∙ (λ i master segment. get-empty place_cmp (master, segment) i)

pub new_empty : (replicas : List ReplicaState) → All (λ replica. replica ≡ new_replica) replicas → AreEmpty (λ replica. Some (segments_of replica)) replicas
new_empty [] new = All-nil (λ (replica : ReplicaState). Some (segments_of replica) ≡ Some no_segments)
new_empty (replica ∷ replicas) new =
    All-cons (λ (it : ReplicaState). Some (segments_of it) ≡ Some no_segments) replica replicas
    (ap Some (new_tells replica (All-head (λ (it : ReplicaState). it ≡ new_replica) replica replicas new)))
    (new_empty replicas (All-tail (λ (it : ReplicaState). it ≡ new_replica) replica replicas new))

-- if memory is wanting at once, a plan was not driven, and nothing was written
pub halts_driven : {R : Type 0} (segments : R → Option Segments) (named : Result Plan Code) (old : Option (List ℕ)) → IfOk named (λ plan. DrivesOver segments plan NoMemory old old)
halts_driven {R} segments (Ok plan) old = record {
  before = [];
  after = [];
  empty = All-nil (λ (replica : R). segments replica ≡ Some no_segments);
  drives = λ empty. inl (record { is = refl; written = refl });
  done = λ is. absurd (cc is);
}
halts_driven segments (Err code) old = tt

-- a plan that is driven over replicas that hold nothing
pub drives_told : {R : Type 0} (segments : R → Option Segments) (named : Result Plan Code) (status : Status) (old new : Option (List ℕ)) (before after : List R) → AreEmpty segments before
    → IfOk named (λ plan. Drives segments plan old new before after status)
    → IfOk named (λ plan. AreEmpty segments before → status ≡ Done → EndsDone segments plan old new before after)
    → IfOk named (λ plan. DrivesOver segments plan status old new)
drives_told segments (Ok plan) status old new before after empty drives done =
    record { before = before; after = after; empty = empty; drives = drives; done = done empty }
drives_told segments (Err code) status old new before after empty drives done = tt
