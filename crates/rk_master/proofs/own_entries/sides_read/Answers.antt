use Rattle.rk_master.proofs.Words.{[], fold, ap, ◌∙◌, Log, with_side_read}
use lib.Seq.{take_all}
use Rattle.rk_master.proofs.OwnEntries.{all_read}
use Rattle.rk_master.proofs.own_entries.sides_read.Goals as goal

pub returns : goal.returns
returns c =
    let log : Log = c.args.log.now in
    all_read c.loop-number.read log.sides c.args.numbers.now
    (c.loop-number.invariant ∙ ap (fold (with_side_read log.sides) []) (take_all c.loop-number.number-index c.args.numbers.now c.loop-number-test.false))
