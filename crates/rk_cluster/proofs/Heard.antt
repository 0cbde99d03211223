-- What a call hears of a lane's answer.
use Rattle.rk_cluster.proofs.Words.{arith, subst, ◌≡◌, ℕ, true, Option, None, Some, Result, Err, IfErr, comes_anyway, refusal, World}
use Rattle.rk_cluster.proofs.Words.{has_crashed, Event, StepError, Seen, IsRefused, LaneState, world_with, worn_by, worn_in, WhereWorn}
use Rattle.rk_cluster.proofs.Words.{failure_of, ClusterError}
use Rattle.std.specs.Prelude.{⊤}
use Rattle.rk_world.specs.declared.error.StepError.TheVariants as causes
use Rattle.rk_cluster.specs.declared.error.ClusterError.TheVariants as errors

-- an answer is not want of memory, and says that this is worn
pub record IsHeard (answer : Result Seen StepError) (broken : Option ℕ) : Type 0 where
  pub memory : answer ≡ Err causes.NoMemory → ⊥
  pub worn : worn_in answer ≡ broken

-- what an answer says, by how a call ends there
abbrev Says : Result Seen StepError → Option ClusterError → Type 0
Says answer None = IsHeard answer None
Says answer (Some errors.NoMemory) = ⊤
Says answer (Some (errors.Code code)) = ⊥
Says answer (Some (errors.Worn number)) = IsHeard answer (Some number)

says : (answer : Result Seen StepError) → Says answer (failure_of answer)
says answer = grind arith

pub heard_well : (answer : Result Seen StepError) → failure_of answer ≡ None → IsHeard answer None
heard_well answer well = subst (Says answer) well (says answer)

-- what an error shows, if an answer was heard
pub heard_ends : (Holds : ℕ → Type 0) (answer : Result Seen StepError) (e : ClusterError) → failure_of answer ≡ Some e
    → ((number : ℕ) → IsHeard answer (Some number) → Holds number) → WhereWorn Holds e
heard_ends Holds answer e failed gives = grind (arith, says)

pub worn_weaker : (Holds Gives : ℕ → Type 0) (e : ClusterError) → ((number : ℕ) → Holds number → Gives number) → WhereWorn Holds e → WhereWorn Gives e
worn_weaker Holds Gives e gives holds = grind arith

-- ---- an event that also a lane takes that is worn

anyway_alone : (w : World) (event : Event) (error : StepError) → comes_anyway event ≡ true → refusal w event ≡ Some error → worn_by error ≡ None
anyway_alone w event error anyway refused = grind (arith, has_crashed, worn_by)

pub anyway_well : {R : Type 0} (faults : R → ℕ) (old new : LaneState R) (event : Event) (answer : Result Seen StepError) → comes_anyway event ≡ true
    → (answer ≡ Err causes.NoMemory → ⊥) → IfErr answer (IsRefused faults event old new) → worn_in answer ≡ None
anyway_well faults old new event answer anyway memory refused = grind (arith, anyway_alone, world_with)
