use Rattle.std.proofs.Common.{◌%◌, ◌∙◌, ap, length, arith, length-append, take}
use Rattle.std.proofs.lemmas.List.{length-take}
use Rattle.rk_cluster.proofs.Gathers.{gathering_all, gathering_count, gathering_one}
use Rattle.rk_cluster.proofs.Worlds.{there_read}
use Rattle.rk_log.specs.declared.copied.TheConstants.{MOST_BACKUPS}
use Rattle.rk_lending.proofs.lending.gather.Goals as goal

pub loop-place-preserved : goal.loop-place-preserved
loop-place-preserved g c =
    let before = c.loop-place.invariant in
    record {
      gathering =
          gathering_one c.args.hands.now.items c.loop-place.hands.items c.loop-place.things.items c.loop-place.place c.index_mut.result.now c.requires.eight before.gathering
          (there_read c.loop-place.hands.items (c.loop-place.place % 8) c.index_mut.result.now (omega (arith, before.gathering.eight)) c.index_mut.ensures.value)
          c.pass_first.new.hand c.pass_first.new.things.items c.pass_first.ensures.left c.pass_first.ensures.passed;
      few =
          omega
          (arith, before.few, ap (λ list. length list) c.pass_first.ensures.passed, length-append c.loop-place.things.items (take 1 c.index_mut.result.now.items), length-take 1 c.index_mut.result.now.items);
      room = c.pass_first.ensures.room ∙ before.room;
    }

pub returns-clause-dealt : goal.returns-clause-dealt
returns-clause-dealt g c =
    gathering_all c.args.hands.now.items c.loop-place.hands.items c.loop-place.things.items c.loop-place.place MOST_BACKUPS c.requires.eight
    (omega (arith, c.loop-place-test.false)) c.loop-place.invariant.gathering

pub returns-clause-count : goal.returns-clause-count
returns-clause-count g c =
    gathering_count c.args.hands.now.items c.loop-place.hands.items c.loop-place.things.items c.loop-place.place MOST_BACKUPS
    (omega (arith, c.loop-place-test.false)) c.loop-place.invariant.gathering
