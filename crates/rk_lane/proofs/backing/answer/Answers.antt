use Rattle.rk_lane.proofs.Words.{[], refl, subst, sym, Node}
use Rattle.rk_lane.proofs.Answered.{AsksNothing, asks_neither, asks_nothing, idle_backed}
use Rattle.rk_lane.proofs.backing.answer.Goals as goal

-- no master asks
pub returns-in_default : goal.returns-in_default
returns-in_default g c = record {
  ok = λ log logs.
      idle_backed g.R.Replica.segments g.R.Replica.faults c.args.backup.now c.args.message.now.from c.args.message.now.body log []
      (asks_nothing c.args.message.now.from c.args.message.now.body c.in_default.not-Master) refl;
  err = tt;
}

-- a master asks nothing
pub returns-in_default-body : goal.returns-in_default-body
returns-in_default-body g c = record {
  ok = λ log logs.
      idle_backed g.R.Replica.segments g.R.Replica.faults c.args.backup.now c.args.message.now.from c.args.message.now.body log []
      (subst (λ (from : Node). AsksNothing from c.args.message.now.body) (sym c.in-Master.is)
      (asks_neither c.in-Master.sender c.args.message.now.body c.in_default-body.not-Append c.in_default-body.not-Read)) refl;
  err = tt;
}
