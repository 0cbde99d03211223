use Rattle.std.proofs.Common.{refl, ◌∙◌, arith}
use Rattle.rk_attempts.proofs.Attempting.{taking_begins, taking_ends, taking_more, taking_waits}
use Rattle.rk_shared_lanes.proofs.Turned.{running_there, same_lane, same_then}
use Rattle.rk_shared_lanes.proofs.kept.KeptLane.take_all.Goals as goal

pub loop-number-init : goal.loop-number-init
loop-number-init g c =
    let there = running_there c.args.self.now.running c.requires.runs in
    record {
      taking = taking_begins g.R.Replica.segments c.args.self.now there.0 c.args.pass.now.session c.args.numbers.now there.1;
      counted = c.requires.counted;
      runs = c.requires.runs;
      client = refl;
      lane = same_lane c.args.self.now;
    }

-- what `take` said is the field of its arm
pub loop-number-preserved : goal.loop-number-preserved
loop-number-preserved g c = record {
  taking =
      taking_more g.R.Replica.segments c.args.self.now c.loop-number.self c.take.new.self c.args.pass.now.session c.loop-number.pass.session c.take.new.pass.session
      c.args.numbers.now c.loop-number.number-index c.in_ok-attempt.field-0 c.loop-number.invariant.taking c.loop-number-test.true 0 c.in_ok-attempt.ensures.came c.in_default.is;
  counted = c.in_ok-attempt.ensures.counted c.in_default.is;
  runs = c.in_ok-attempt.ensures.runs;
  client = c.take.ensures.client ∙ c.loop-number.invariant.client;
  lane = same_then c.args.self.now c.loop-number.self c.take.new.self c.loop-number.invariant.lane c.take.ensures.lane;
}

pub returns-in-Some-clause-came : goal.returns-in-Some-clause-came
returns-in-Some-clause-came g c =
    taking_ends g.R.Replica.segments c.args.self.now c.loop-number.self c.take.new.self c.args.pass.now.session c.loop-number.pass.session c.take.new.pass.session
    c.args.numbers.now c.loop-number.number-index c.in_ok-attempt.field-0 c.loop-number.invariant.taking c.loop-number-test.true 0 c.in_ok-attempt.ensures.came
    c.in-Some.attempt c.in-Some.is

pub returns-clause-came : goal.returns-clause-came
returns-clause-came g c =
    taking_waits g.R.Replica.segments c.args.self.now c.loop-number.self c.args.pass.now.session c.loop-number.pass.session c.args.numbers.now c.loop-number.number-index
    (omega (arith, c.loop-number-test.false)) c.loop-number.invariant.taking
