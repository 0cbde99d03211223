use Rattle.rk_master.proofs.Words.{◌++◌, ap, ◌∙◌, List, Message, Master, master_of}
use Rattle.rk_master.proofs.Appends.{sent_next, all_sent, all_behind}
use Rattle.rk_master.proofs.turn.send_pending.Goals as goal

pub loop-before-preserved : goal.loop-before-preserved
loop-before-preserved c =
    let master : Master = master_of c.args.state.now in
    record {
      sends =
          sent_next master c.loop-before.work.sends.items c.send_to.new.work.sends.items c.loop-before.before c.args.state.now.backups c.loop-before-test.true c.in_ok-send_to.ensures.sends
          ∙ c.loop-before.invariant.sends;
      served = c.in_ok-send_to.ensures.served ∙ c.loop-before.invariant.served;
      marked = c.in_ok-send_to.ensures.marked ∙ c.loop-before.invariant.marked;
    }

pub returns-clause-sends : goal.returns-clause-sends
returns-clause-sends c =
    let master : Master = master_of c.args.state.now in
    all_sent master c.loop-before.work.sends.items c.loop-before.before c.args.state.now.backups c.loop-before-test.false
    ∙ c.loop-before.invariant.sends
    ∙ ap (λ (xs : List Message). c.args.work.now.sends.items ++ xs) (all_behind master c.args.state.now.backups c.requires.backups)
