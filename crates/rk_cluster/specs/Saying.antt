-- What a client says of a lane's answer.
use Rattle.std.specs.Prelude.{◌≡◌, List, [], Option, None, Result, Ok, Err}
use Rattle.std.specs.Option.{option_map}
use Rattle.rk_types.specs.declared.call.Call.{Call}
use Rattle.rk_types.specs.declared.history.Receipt.{Receipt}
use Rattle.rk_types.specs.declared.node.Said.{Said}
use Rattle.rk_world.specs.declared.error.StepError.{StepError}
use Rattle.rk_world.specs.declared.event.Seen.{Seen}
use Rattle.rk_cluster.specs.Acted.{said_by}
use Rattle.rk_cluster.specs.Steps.{failure_of}
use Rattle.rk_cluster.specs.declared.saying.Asked.{Asked}

-- the client and the seq of a call
abbrev pub asked_of : Call → Asked
asked_of call = record { client = call.client; seq = call.seq }

-- what a client with this outstanding call says of a lane's answer, with these receipts after it
abbrev pub said_then : Option Call → List Receipt → Result Seen StepError → List Said
said_then call receipts (Ok seen) = said_by call receipts seen.taken
said_then call receipts (Err error) = []

-- a client whose call has this client and seq said this of a lane's answer, which says neither that the lane is worn nor that memory is
-- wanting
pub record IsSaidOf (asked : Option Asked) (receipts : List Receipt) (answer : Result Seen StepError) (told : List Said) : Type 0 where
  pub well : failure_of answer ≡ None
  pub said : (call : Option Call) → option_map asked_of call ≡ asked → told ≡ said_then call receipts answer
