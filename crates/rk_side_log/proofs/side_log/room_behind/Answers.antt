use Rattle.rk_side_log.proofs.Views.{room_seen}
use Rattle.rk_side_log.proofs.side_log.room_behind.Goals as goal

pub returns : goal.returns
returns c =
    room_seen c.args.segments.now c.args.used c.length.result c.index-segments-used.result c.if-used-eq0.false c.requires c.index-segments-used.is c.length.ensures.length
