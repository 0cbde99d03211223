-- A visit to the parts of a lane is one to the lane.
use Rattle.rk_lane.proofs.Words.{arith, ◌≡◌, false, length, Visited, Session, World, StepError, Seen, lane_of, IsSameLane, running_of}
use Rattle.rk_lane.proofs.Words.{world_of, IsVisitOf, IsVisited, Inside, Parts}
use Rattle.std.specs.Prelude.{IfOk, OnErr, Result}

pub visit_in_lane : {R : Type 0} (visit : World → Result Visited StepError) (lane : Inside R) (parts : Parts) (session : Session) (seen : Seen)
    → lane.spent ≡ false → length lane.backups.items ≡ lane.parts.backups → IsVisited visit lane.parts parts session seen
    → IsVisitOf visit (lane_of lane) (lane_of (record lane { parts = parts })) session seen
visit_in_lane visit lane parts session seen live count visited = grind (arith, running_of, world_of)

-- it is one lane still, also if the visit was refused
pub same_by_visit : {R : Type 0} (visit : World → Result Visited StepError) (lane : Inside R) (parts : Parts) (session : Session) (answer : Result Seen StepError)
    → IfOk answer (IsVisited visit lane.parts parts session) → OnErr answer (parts ≡ lane.parts) → IsSameLane (lane_of lane) (lane_of (record lane { parts = parts }))
same_by_visit visit lane parts session answer visited same = grind arith
