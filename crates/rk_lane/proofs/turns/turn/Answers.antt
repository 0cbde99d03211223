use Rattle.rk_lane.proofs.Words.{None, sym, subst, refl, Node, Gave, IsMade, IsReady}
use Rattle.rk_types.specs.declared.node.Node.TheVariants as nodes
use Rattle.rk_world.specs.declared.event.Event.TheVariants as events
use Rattle.rk_lane.proofs.Quiet.{stays_made}
use Rattle.rk_lane.proofs.turns.turn.Goals as goal

pub returns-in-Backup-clause-ok : goal.returns-in-Backup-clause-ok
returns-in-Backup-clause-ok c =
    subst (λ (node : Node). IsMade c.args.parts.now (events.Turn node) (Gave None) c.args.parts.now c.quiet.result) (sym c.in-Backup.is)
    (stays_made c.args.parts.now (events.Turn (nodes.Backup c.in-Backup.field-0)) c.quiet.result
    (subst (λ (node : Node). IsReady c.args.parts.now (events.Turn node)) c.in-Backup.is c.requires) refl (λ stored. refl) c.quiet.ensures)
