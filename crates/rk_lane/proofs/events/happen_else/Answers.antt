use Rattle.rk_lane.proofs.Words.{sym, ◌∙◌, IfOk-weaker}
use Rattle.rk_lane.proofs.Happening.{calls_none, made_happened}
use Rattle.rk_lane.proofs.events.happen_else.Goals as goal

pub returns-in_default-event-clause-ok : goal.returns-in_default-event-clause-ok
returns-in_default-event-clause-ok g c =
    IfOk-weaker c.happen_within.result _ _
    (λ seen made.
    made_happened g.R.Replica.segments g.R.Replica.faults c.args.parts.now c.happen_within.new.parts c.args.event c.args.backups.now.items c.requires.numbered
    (sym c.worn_for.ensures ∙ c.in_default.is) seen (calls_none c.args.parts.now c.args.event c.in_default-event.not-Deliver) made)
    c.happen_within.ensures.ok
