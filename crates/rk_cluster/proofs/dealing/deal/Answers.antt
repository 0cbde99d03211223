use Rattle.rk_cluster.proofs.Words.{arith, nil_from_length, into_iter_items}
use Rattle.rk_cluster.proofs.Eighths.{dealing_one, dealt}
use Rattle.rk_cluster.proofs.Worlds.{there_read}
use Rattle.rk_cluster.proofs.dealing.deal.Goals as goal

pub loop-thing-preserved : goal.loop-thing-preserved
loop-thing-preserved g c =
    let before = c.loop-thing.invariant in
    dealing_one c.args.things.items c.loop-thing.yielded (into_iter_items c.loop-thing.thing-iterator) (into_iter_items c.next.new.self) c.loop-thing.hands.items c.loop-thing.place
    c.in-Some.thing c.index_mut.result.now c.push.new.self before c.in-Some.ensures.steps.0
    (there_read c.loop-thing.hands.items c.loop-thing.place c.index_mut.result.now (omega (arith, before.next, before.count)) c.index_mut.ensures.value)
    c.in_ok-push.ensures.items

pub returns : goal.returns
returns g c =
    dealt c.args.things.items c.loop-thing.yielded (into_iter_items c.loop-thing.thing-iterator) c.loop-thing.hands.items c.loop-thing.place
    (nil_from_length (into_iter_items c.loop-thing.thing-iterator) (omega (arith, c.in-None.ensures.steps.0))) c.loop-thing.invariant
