-- The ranges of one lane change: what is cached then, and the room that is left.
use Rattle.std.proofs.Common.{◌≡◌, ℕ, ◌≤◌, ◌<◌, true, not, List, [], ◌++◌, length, sym, ap, ◌∙◌, subst, arith, get_or, set}
use Rattle.std.proofs.lemmas.Bool.Decides.{nat_tests}
use Rattle.std.proofs.lemmas.List.{append-nil, map-set, set-get_or, get_or-map, get_or_default, get_or-set_same}
use Rattle.std.proofs.lemmas.List.Elements.{filter-append}
use Rattle.rk_types.specs.declared.call.Call.{Call}
use Rattle.rk_message.specs.declared.calls.Located.{Located}
use Rattle.rk_world.specs.Client.{call_lane, has_call, owned_range}
use Rattle.rk_session.specs.Cached.{Cached, without_call, apart_from, ranges_of, ranges_for, IsRoomy, HasRoom}
use Rattle.rk_session.proofs.Filters.{length-filter_le, filter_longer, filter_twice}

-- nothing is cached, and there is no room
abbrev pub none_cached : Cached
none_cached = record { ranges = []; capacity = 0 }

-- there is room for a range with the key of a call, once those that it meets are gone
pub room_to_put : (call : Call) (located : Located) (cached : Cached) → has_call call located ≡ true → IsRoomy call cached → length (apart_from located cached.ranges) < cached.capacity
room_to_put call located cached its roomy = grind (arith, filter_longer, nat_tests, located.range, cached.ranges)

-- the room stays when the ranges with the key are dropped
pub room_forgotten : (call : Call) (old new : Cached) → new.ranges ≡ without_call call old.ranges → new.capacity ≡ old.capacity → IsRoomy call old → IsRoomy call new
room_forgotten call old new ranges capacity roomy = grind (arith, filter_twice)

-- the room stays when a range with the key is put
pub room_put : (call : Call) (located : Located) (old new : Cached) → has_call call located ≡ true
    → new.ranges ≡ apart_from located old.ranges ++ owned_range located located.owner → old.capacity ≤ new.capacity → IsRoomy call old → IsRoomy call new
room_put call located old new its ranges capacity roomy = grind (arith, filter-append, append-nil, filter_twice)

-- what is read at the lane of a call is roomy, if that lane has room
pub read_room : (call : Call) (lanes : List Cached) (lane : ℕ) (d : Cached) → lane ≡ call_lane call → lane < length lanes → HasRoom call lanes → IsRoomy call (get_or lanes lane d)
read_room call lanes lane d at within room =
    subst (IsRoomy call) (ap (λ i. get_or lanes i none_cached) (sym at) ∙ get_or_default lanes lane none_cached d within) room

-- the lane of a call has room once something roomy is put there
pub set_room : (call : Call) (lanes : List Cached) (lane : ℕ) (new : Cached) → lane ≡ call_lane call → lane < length lanes → IsRoomy call new → HasRoom call (set lanes lane new)
set_room call lanes lane new at within roomy = grind (arith, get_or-set_same)

-- the ranges that are read at the lane of a call
pub read_ranges : (call : Call) (lanes : List Cached) (lane : ℕ) (d : Cached) → lane ≡ call_lane call → lane < length lanes → (get_or lanes lane d).ranges ≡ ranges_for call (ranges_of lanes)
read_ranges call lanes lane d at within = grind (arith, get_or-map)

-- what is cached once the ranges of the lane of a call are others
pub set_ranges : (call : Call) (lanes : List Cached) (lane : ℕ) (new : Cached) (ranges : List Located) → lane ≡ call_lane call → new.ranges ≡ ranges → ranges_of (set lanes lane new) ≡ set (ranges_of lanes) (call_lane call) ranges
set_ranges call lanes lane new ranges at is = grind (arith, map-set)

-- what is cached stays if those ranges stay
pub same_ranges : (lanes : List Cached) (lane : ℕ) (d new : Cached) → lane < length lanes → new.ranges ≡ (get_or lanes lane d).ranges → ranges_of (set lanes lane new) ≡ ranges_of lanes
same_ranges lanes lane d new within is =
    let there : new.ranges ≡ get_or (ranges_of lanes) lane [] = is ∙ sym (get_or-map (λ (cached : Cached). cached.ranges) lanes lane d [] within) in
    map-set (λ (cached : Cached). cached.ranges) lanes lane new
    ∙ ap (λ r. set (ranges_of lanes) lane r) there
    ∙ set-get_or (ranges_of lanes) lane []

-- no more are left than there were, so room for one more is room beside those without the key
pub room_reserved : (call : Call) (cached : Cached) → length cached.ranges < cached.capacity → IsRoomy call cached
room_reserved call cached roomy = omega (arith, roomy, length-filter_le (λ other. not (has_call call other)) cached.ranges)
