use Rattle.rk_lane.proofs.Sending.{nothing_sent, only_sent}
use Rattle.rk_lane.proofs.sends.send_some.Goals as goal

pub returns-in_default : goal.returns-in_default
returns-in_default c = nothing_sent c.args.wire.now c.args.send c.nothing.result c.in_default.is c.nothing.ensures

pub returns : goal.returns
returns c =
    only_sent c.args.wire.now c.args.send c.in-Some.message c.send.new.self c.nothing-2.result c.with.result c.in_ok-number.number c.in-Some.is c.nothing-2.ensures
    c.in_ok-number.ensures.number c.in_ok-number.ensures.sent c.with.ensures c.requires.lawful c.requires.room
