use Rattle.rk_lane.proofs.Words.{IfOk-weaker}
use Rattle.rk_lane.proofs.Happening.{calls_no_replica, made_happened}
use Rattle.rk_world.specs.declared.event.Event.TheVariants as events
use Rattle.rk_lane.proofs.events.arrive.Goals as goal

pub returns-clause-ok : goal.returns-clause-ok
returns-clause-ok g c =
    IfOk-weaker c.deliver_to.result _ _
    (λ seen made.
    made_happened g.R.Replica.segments g.R.Replica.faults c.args.parts.now c.deliver_to.new.parts (events.Deliver c.args.arrival.number) c.args.backups.now.items c.requires.numbered
    c.requires.ready.fresh seen (calls_no_replica c.args.parts.now c.args.arrival.number c.args.arrival.message c.requires.there c.in_default.not-Backup) made)
    c.deliver_to.ensures.ok
