use Rattle.std.proofs.Common.{arith, get_or}
use Rattle.rk_session.proofs.Lanes.{read_room, room_forgotten, set_room}
use Rattle.rk_session.proofs.cached_ranges.CachedRanges.forget.Goals as goal

pub returns-clause-room : goal.returns-clause-room
returns-clause-room c room =
    let call = c.args.call.now in
    let lanes = c.args.self.now.lanes in
    let lane = c.lane_index.result in
    let d = c.index-self-lane_index.result in
    let at = c.lane_index.ensures.lane in
    let roomy = read_room call lanes lane d at (omega arith) room in
    set_room call lanes lane c.forget.new.self at (omega arith)
    (room_forgotten call (get_or lanes lane d) c.forget.new.self c.forget.ensures.ranges c.forget.ensures.capacity roomy)
