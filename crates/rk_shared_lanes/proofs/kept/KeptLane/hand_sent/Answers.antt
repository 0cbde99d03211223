use Rattle.rk_shared_lanes.proofs.Words.{sym, subst, IsSending}
use Rattle.rk_attempts.proofs.Attempting.{sending_none, sending_one}
use Rattle.rk_shared_lanes.proofs.Attempted.{sent_none, sent_some}
use Rattle.rk_shared_lanes.proofs.Turned.{running_there}
use Rattle.rk_shared_lanes.proofs.kept.KeptLane.hand_sent.Goals as goal

pub returns-then-seen-eq0-clause-came : goal.returns-then-seen-eq0-clause-came
returns-then-seen-eq0-clause-came g c =
    λ worn ends.
    let there = running_there c.args.self.now.running c.requires.runs in
    subst (IsSending g.R.Replica.segments c.args.self.now c.args.self.now c.args.seen.now) (sym ends)
    (sending_none g.R.Replica.segments c.args.self.now there.0 c.args.seen.now there.1 (sent_none c.args.seen.now.sent c.if-seen-eq0.true))

pub returns-clause-came : goal.returns-clause-came
returns-clause-came g c =
    λ worn ends.
    sending_one g.R.Replica.segments c.args.self.now c.hand.new.self c.args.seen.now worn (sent_some c.args.seen.now.sent c.if-seen-eq0.false) (c.hand.ensures.came worn ends)
