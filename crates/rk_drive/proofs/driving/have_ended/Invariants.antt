use Rattle.std.proofs.Common.{take}
use Rattle.std.specs.List.{All}
use Rattle.rk_drive.specs.Driven.{HasAnswers}
use Rattle.rk_drive.proofs.driving.have_ended.Given as goal

abbrev pub invariant-loop-session : goal.invariant-loop-session
invariant-loop-session l = All (HasAnswers l.plan.calls) (take l.session-index l.sessions)
