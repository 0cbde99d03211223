use Rattle.rk_master.proofs.Words.{[], ◌∷◌, ◌++◌, sym, ◌∙◌, Master, tablet_of, Row, master_of}
use Rattle.rk_master.specs.Pulls.{want_answer}
use Rattle.rk_master.proofs.Answering.{want_answered, want_ignored}
use Rattle.rk_master.proofs.Handovers.{tablet_read, worked_quietly, worked_sending}
use Rattle.rk_master.proofs.pulls.answer_want.Goals as goal

pub returns-then-not-is_frozen_at : goal.returns-then-not-is_frozen_at
returns-then-not-is_frozen_at c =
    let master : Master = master_of c.args.state.now in
    let read : Row = c.index.result.now in
    let tablet = tablet_read c.args.state.now.tablets.items c.args.want.now.tenure.tablet c.args.at read c.requires.order c.requires.place c.index.ensures in
    worked_quietly master c.nothing-work.result c.nothing-work.ensures.sends c.nothing-work.ensures.served c.nothing-work.ensures.marked
    ∙ want_ignored master c.args.from c.args.want.now (tablet_of read.1) tablet (sym c.is_frozen_at.ensures ∙ c.if-not-is_frozen_at.true)

pub returns : goal.returns
returns c =
    let master : Master = master_of c.args.state.now in
    let read : Row = c.index.result.now in
    let tablet = tablet_read c.args.state.now.tablets.items c.args.want.now.tenure.tablet c.args.at read c.requires.order c.requires.place c.index.ensures in
    let sends = c.in_ok-send.ensures.sends ∙ (λ i. c.nothing-work.ensures.sends i ++ c.in_ok-wanted_message.ensures i ∷ []) in
    worked_sending master c.send.new.self (want_answer master c.args.from read.1.handover.range c.args.want.now) sends (c.in_ok-send.ensures.served ∙ c.nothing-work.ensures.served)
    (c.in_ok-send.ensures.marked ∙ c.nothing-work.ensures.marked)
    ∙ want_answered master c.args.from c.args.want.now (tablet_of read.1) tablet (sym c.is_frozen_at.ensures ∙ c.if-not-is_frozen_at.false)
