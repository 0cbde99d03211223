use Rattle.std.proofs.Common.{arith, get_or, ap, ◌∙◌, ◌++◌}
use Rattle.rk_world.specs.Client.{owned_range}
use Rattle.rk_session.specs.Cached.{apart_from, ranges_for, ranges_of}
use Rattle.rk_session.proofs.Lanes.{read_room, read_ranges, room_to_put, room_put, set_ranges, set_room}
use Rattle.rk_session.proofs.cached_ranges.CachedRanges.put.Goals as goal

pub put-requires : goal.put-requires
put-requires c =
    let call = c.args.call.now in
    let lanes = c.args.self.now.lanes in
    let lane = c.lane_index.result in
    let d = c.index-self-lane_index.result in
    room_to_put call c.args.located (get_or lanes lane d) c.requires.its (read_room call lanes lane d c.lane_index.ensures.lane (omega arith) c.requires.room)

pub returns-clause-ranges : goal.returns-clause-ranges
returns-clause-ranges c =
    let call = c.args.call.now in
    let located = c.args.located in
    let lanes = c.args.self.now.lanes in
    let lane = c.lane_index.result in
    let d = c.index-self-lane_index.result in
    let at = c.lane_index.ensures.lane in
    set_ranges call lanes lane c.put.new.self (apart_from located (ranges_for call (ranges_of lanes)) ++ owned_range located located.owner) at
    (c.put.ensures.ranges ∙ ap (λ r. apart_from located r ++ owned_range located located.owner) (read_ranges call lanes lane d at (omega arith)))

pub returns-clause-room : goal.returns-clause-room
returns-clause-room c =
    let call = c.args.call.now in
    let lanes = c.args.self.now.lanes in
    let lane = c.lane_index.result in
    let d = c.index-self-lane_index.result in
    let at = c.lane_index.ensures.lane in
    let roomy = read_room call lanes lane d at (omega arith) c.requires.room in
    set_room call lanes lane c.put.new.self at (omega arith)
    (room_put call c.args.located (get_or lanes lane d) c.put.new.self c.requires.its c.put.ensures.ranges c.put.ensures.capacity roomy)
