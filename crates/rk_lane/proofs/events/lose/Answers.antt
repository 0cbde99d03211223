use Rattle.std.proofs.Common.{refl}
use Rattle.rk_lane.proofs.Words.{IfOk-weaker}
use Rattle.rk_world.specs.declared.event.Event.TheVariants as events
use Rattle.rk_lane.proofs.Happening.{made_happened}
use Rattle.rk_lane.proofs.events.lose.Goals as goal

pub returns-clause-ok : goal.returns-clause-ok
returns-clause-ok g c =
    IfOk-weaker c.forget.result _ _
    (λ seen made.
    made_happened g.R.Replica.segments g.R.Replica.faults c.args.parts.now c.forget.new.parts (events.Forget c.args.number) c.args.backups.now.items c.requires.numbered refl
    seen tt made)
    c.forget.ensures.ok
