use Rattle.rk_lane.proofs.Words.{[], refl, subst, Event, MayStep, world_of}
use Rattle.rk_lane.proofs.Happening.{ready_at}
use Rattle.rk_lane.proofs.events.happen_within.Goals as goal

pub forget-requires : goal.forget-requires
forget-requires c = c.requires.ready.kept

pub crash-requires : goal.crash-requires
crash-requires c = record {
  kept = c.requires.ready.kept;
  may = subst (λ (event : Event). MayStep (world_of c.args.parts.now []) event) c.in-Crash.is c.requires.ready.may;
}

pub add_tablet-requires : goal.add_tablet-requires
add_tablet-requires c = ready_at c.args.parts.now c.args.event _ c.in-AddTablet.is refl c.requires.ready

pub add_client-requires : goal.add_client-requires
add_client-requires c = ready_at c.args.parts.now c.args.event _ c.in-AddClient.is refl c.requires.ready

pub turn-requires : goal.turn-requires
turn-requires c = ready_at c.args.parts.now c.args.event _ c.in-Turn.is refl c.requires.ready

pub send_again-requires : goal.send_again-requires
send_again-requires c = ready_at c.args.parts.now c.args.event _ c.in-Again.is refl c.requires.ready

pub migrate-requires : goal.migrate-requires
migrate-requires c = ready_at c.args.parts.now c.args.event _ c.in-Migrate.is refl c.requires.ready

pub split-requires : goal.split-requires
split-requires c = ready_at c.args.parts.now c.args.event _ c.in-Split.is refl c.requires.ready

pub notice-requires : goal.notice-requires
notice-requires c = ready_at c.args.parts.now c.args.event _ c.in-Notice.is refl c.requires.ready
