use Rattle.std.proofs.Common.{◌≡◌, false, [], arith}
use Rattle.rk_world.specs.World.{has_crashed}
use Rattle.rk_lane.specs.Parts.{world_of}
use Rattle.rk_lane.specs.Resting.{SendsNothing}
use Rattle.rk_lane.proofs.Quiet.{masters_counted}
use Rattle.rk_lane.proofs.Rested.{one_more}
use Rattle.rk_lane.proofs.resting.masters_rest.Goals as goal

pub loop-index-init : goal.loop-index-init
loop-index-init c = λ master there. absurd (omega (arith, there.first, there.last))

pub is_at_rest-requires : goal.is_at_rest-requires
is_at_rest-requires c = record {
  first = omega arith;
  last = omega (arith, c.masters-index-end.ensures, c.loop-index-test.true, masters_counted c.args.parts.now c.requires);
}

pub loop-index-preserved : goal.loop-index-preserved
loop-index-preserved c =
    one_more (λ master. has_crashed (world_of c.args.parts.now []) master ≡ false → SendsNothing c.args.parts.now.masters.items master) c.loop-index.index
    c.loop-index.invariant (c.is_at_rest.ensures c.if-not-is_at_rest.false)

pub returns : goal.returns
returns c = λ _ master there.
    c.loop-index.invariant master
    (record { first = there.first; last = omega (arith, there.last, c.masters-index-end.ensures, c.loop-index-test.false, masters_counted c.args.parts.now c.requires) })
