-- What is cached of each lane, what stays of it, and the room that is reserved.
use Rattle.std.specs.Prelude.{ℕ, ◌<◌, List, [], filter, length, map, not, slice_index_or}
use Rattle.rk_types.specs.Range.{meets}
use Rattle.rk_types.specs.declared.call.Call.{Call}
use Rattle.rk_message.specs.declared.calls.Located.{Located}
use Rattle.rk_world.specs.Client.{call_lane, has_call}

-- what contracts see of the ranges of a lane: the ranges, and how many find room
pub record Cached : Type 0 where
  pub ranges : List Located
  pub capacity : ℕ

-- the ranges that do not have the key of a call
abbrev pub without_call : Call → List Located → List Located
without_call call ranges = filter (λ located. not (has_call call located)) ranges

-- the ranges that do not meet one
abbrev pub apart_from : Located → List Located → List Located
apart_from located ranges = filter (λ other. not (meets other.range located.range)) ranges

-- the ranges that are cached, by lane
abbrev pub ranges_of : List Cached → List (List Located)
ranges_of lanes = map (λ cached. cached.ranges) lanes

-- the ranges of the lane of a call
abbrev pub ranges_for : Call → List (List Located) → List Located
ranges_for call ranges = slice_index_or ranges (call_lane call) []

-- there is room for one more range beside those that do not have the key of a call
abbrev pub IsRoomy : Call → Cached → Type 0
IsRoomy call cached = length (without_call call cached.ranges) < cached.capacity

-- there is such room in the lane of the call
abbrev pub HasRoom : Call → List Cached → Type 0
HasRoom call lanes = IsRoomy call (slice_index_or lanes (call_lane call) (record { ranges = []; capacity = 0 }))
