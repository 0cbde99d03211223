use Rattle.std.proofs.Common.{arith}
use Rattle.std.proofs.lemmas.Result.{on_ok_weaker}
use Rattle.rk_session.proofs.Lanes.{room_reserved, same_ranges, set_room}
use Rattle.rk_session.proofs.cached_ranges.CachedRanges.reserve_one.Goals as goal

pub returns-clause-ranges : goal.returns-clause-ranges
returns-clause-ranges c = same_ranges c.args.self.now.lanes c.lane_index.result c.index-self-lane_index.result c.reserve_one.new.self (omega arith) c.reserve_one.ensures.ranges

pub returns-clause-ok : goal.returns-clause-ok
returns-clause-ok c =
    on_ok_weaker c.reserve_one.result
    (λ roomy. set_room c.args.call.now c.args.self.now.lanes c.lane_index.result c.reserve_one.new.self c.lane_index.ensures.lane (omega arith) (room_reserved c.args.call.now c.reserve_one.new.self roomy))
    c.reserve_one.ensures.ok
