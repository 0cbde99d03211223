use Rattle.std.specs.Prelude.{drop}
use Rattle.rk_lane.proofs.Sending.{IsSending}
use Rattle.rk_lane.proofs.sends.send_all.Given as goal

-- those so far are sent
abbrev pub invariant-loop-message : goal.invariant-loop-message
invariant-loop-message l = IsSending l.fn.wire l.message-items (drop l.message-index l.message-items) l.wire l.sent
