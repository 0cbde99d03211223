use Rattle.std.proofs.Common.{sym, ◌∙◌, refl}
use Rattle.rk_types.specs.declared.node.Node.TheVariants as nodes
use Rattle.rk_world.specs.declared.error.StepError.TheVariants as errors
use Rattle.rk_world.specs.declared.event.Event.TheVariants as events
use Rattle.rk_lane.proofs.Quiet.{known, stays_made}
use Rattle.rk_lane.proofs.turns.turn_client.Goals as goal

pub returns-clause-ok : goal.returns-clause-ok
returns-clause-ok c =
    stays_made c.args.parts.now (events.Turn (nodes.Client c.args.client)) c.quiet.result c.requires
    (known _ (errors.Stranger c.args.client) (sym c.is_added.ensures ∙ c.if-not-is_added.false)) (λ stored. refl) c.quiet.ensures
