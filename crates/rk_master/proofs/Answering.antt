-- What a source answers to a target that pulls.
use Rattle.rk_master.proofs.Words.{arith, ◌≡◌, true, false, cond-true, cond-false, Master, tablet_at, Tablet, changed}
use Rattle.rk_types.specs.declared.node.Node.{Node}
use Rattle.rk_message.specs.declared.pulling.Pull.{Pull}
use Rattle.rk_message.specs.declared.pulling.Want.{Want}
use Rattle.rk_world.specs.Pulls.{pull_taken, want_taken}
use Rattle.rk_world.specs.RoleTests.{is_frozen_at}
use Rattle.rk_world.specs.Worked.{sending}
use Rattle.rk_master.specs.Pulls.{batch_answer, want_answer}

-- a tablet that is frozen answers
pub pull_answered : (master : Master) (sender : Node) (pull : Pull) (tablet : Tablet) → tablet_at master pull.tenure.tablet ≡ tablet → is_frozen_at tablet pull.tenure.term ≡ true
    → sending master (batch_answer master sender tablet.handover.range pull) ≡ pull_taken master sender pull
pull_answered master sender pull tablet there frozen = grind (arith, cond-true, changed)

-- and a tablet that is not frozen does not
pub pull_ignored : (master : Master) (sender : Node) (pull : Pull) (tablet : Tablet) → tablet_at master pull.tenure.tablet ≡ tablet → is_frozen_at tablet pull.tenure.term ≡ false
    → changed master ≡ pull_taken master sender pull
pull_ignored master sender pull tablet there not_frozen = grind (arith, cond-false, changed)

-- a tablet that is frozen answers
pub want_answered : (master : Master) (sender : Node) (want : Want) (tablet : Tablet) → tablet_at master want.tenure.tablet ≡ tablet → is_frozen_at tablet want.tenure.term ≡ true
    → sending master (want_answer master sender tablet.handover.range want) ≡ want_taken master sender want
want_answered master sender want tablet there frozen = grind (arith, cond-true, changed)

-- and a tablet that is not frozen does not
pub want_ignored : (master : Master) (sender : Node) (want : Want) (tablet : Tablet) → tablet_at master want.tenure.tablet ≡ tablet → is_frozen_at tablet want.tenure.term ≡ false
    → changed master ≡ want_taken master sender want
want_ignored master sender want tablet there not_frozen = grind (arith, cond-false, changed)
