use Rattle.rk_shared_lanes.proofs.Words.{None, refl, err_from_is_err_and, one_handed_out}
use Rattle.rk_attempts.proofs.Works.{none_handed_out}
use Rattle.rk_shared_lanes.proofs.Turned.{handing_stopped, running_there, same_lane, same_then}
use Rattle.rk_shared_lanes.proofs.kept.KeptLane.hand_out.Goals as goal

pub messages-init : goal.messages-init
messages-init g c =
    let there = running_there c.args.self.now.running c.requires.runs in
    record {
      out = none_handed_out g.R.Replica.segments c.args.self.now there.0 there.1;
      runs = c.requires.runs;
      lane = same_lane c.args.self.now;
    }

pub messages-preserved : goal.messages-preserved
messages-preserved g c =
    let next = rw c.in-Some.is at c.next_message.ensures.number in
    record {
      out =
          one_handed_out g.R.Replica.segments c.args.self.now c.messages.self c.hand.new.self c.in-Some.number None c.messages.invariant.out next
          (c.in_ok-hand.ensures.came None refl);
      runs = c.in_ok-hand.ensures.runs;
      lane = same_then c.args.self.now c.messages.self c.hand.new.self c.messages.invariant.lane c.hand.ensures.lane;
    }

pub returns-in_err-hand-clause-came : goal.returns-in_err-hand-clause-came
returns-in_err-hand-clause-came g c =
    let lost = err_from_is_err_and c.from_residual.result c.from_residual.ensures.1 in
    let next = rw c.in-Some.is at c.next_message.ensures.number in
    rw (lost.1, lost.2)
    (handing_stopped g.R.Replica.segments c.args.self.now c.messages.self c.hand.new.self c.in-Some.number c.in_err-hand.field-0.0 c.messages.invariant.out next
    c.in_err-hand.ensures.came)

pub returns-in_err-hand-clause-lane : goal.returns-in_err-hand-clause-lane
returns-in_err-hand-clause-lane g c = same_then c.args.self.now c.messages.self c.hand.new.self c.messages.invariant.lane c.hand.ensures.lane
