-- What contracts see of a source and of a sink in memory. Their calls are counted from 1, and a list names the
-- calls that go wrong.
use Rattle.std.specs.Prelude.{ℕ, ◌-◌, ◌≤◌, ◌^◌, ◌==◌, nat_lt, min, Bool, ◌&&◌, ◌||◌, List, [], length, if◌then◌else◌}
use Rattle.std.specs.Global.{Vec}
use Rattle.std.specs.Vec.{vec_len, vec_capacity}
use Rattle.std.specs.List.{list_any}
use Rattle.rk_outside.specs.Faults.{one_more}

-- the bytes that are left, the most that a call hands over, the calls so far, the calls that fail, and the faults
pub record SourceState : Type 0 where
  pub left : List ℕ
  pub most : ℕ
  pub calls : ℕ
  pub failing : List ℕ
  pub faults : ℕ

-- a source of these bytes, before its first call
abbrev pub new_source : List ℕ → SourceState
new_source bytes = record { left = bytes; most = 2 ^ 64 - 1; calls = 0; failing = []; faults = 0 }

-- the bytes that were written, how many there is room for, the most that a call takes, the calls so far, the calls that
-- fail, the calls that take nothing, and the faults
pub record SinkState : Type 0 where
  pub written : List ℕ
  pub room : ℕ
  pub most : ℕ
  pub calls : ℕ
  pub failing : List ℕ
  pub idle : List ℕ
  pub faults : ℕ

-- memory for so many bytes has been taken, and the bytes that are there are no more
pub record HasRoom (bytes : Vec ℕ) (room : ℕ) : Type 0 where
  pub reserved : room ≤ vec_capacity bytes
  pub within : vec_len bytes ≤ room

-- a sink with room for so many bytes that holds nothing, before its first call
abbrev pub new_sink : ℕ → SinkState
new_sink room =
    record { written = []; room = room; most = 2 ^ 64 - 1; calls = 0; failing = []; idle = []; faults = 0 }

-- whether a call is in the list
abbrev pub is_listed : List ℕ → ℕ → Bool
is_listed calls call = list_any (λ listed. listed == call) calls

-- whether the sink's next call fails
abbrev pub fails_next : SinkState → Bool
fails_next sink = is_listed sink.failing (one_more sink.calls)

-- how many of so many bytes the sink's next call takes, if it does not fail: as many as it may and has room for
abbrev pub taken_of : SinkState → ℕ → ℕ
taken_of sink count =
    if is_listed sink.idle (one_more sink.calls) then 0
    else min (sink.room - length sink.written) (min sink.most count)

-- whether the sink's next call, which is given so many bytes, is a fault: it fails, or takes nothing of some bytes
abbrev pub is_fault : SinkState → ℕ → Bool
is_fault sink count = fails_next sink || (taken_of sink count == 0 && nat_lt 0 count)
