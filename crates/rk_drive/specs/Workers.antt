-- What the workers of a drive do to what they share.
use Rattle.std.specs.Prelude.{ℕ, List}
use Rattle.rk_types.specs.declared.call.Call.{Call}
use Rattle.rk_workload.specs.Workload.{call_of}
use Rattle.rk_shared_lanes.specs.Passes.{PassState}
use Rattle.rk_shared_lanes.specs.Together.{clients_of, sessions_of}

-- each call of a workload over so many keys is a call that clients make
abbrev pub MakesWorkload : (Call → Type 0) → ℕ → Type 0
MakesWorkload makes keys = (client seq : ℕ) → makes (call_of keys client seq)

-- the clients of passes
abbrev pub clients_in : List PassState → List ℕ
clients_in passes = clients_of (sessions_of passes)
