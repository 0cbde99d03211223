use Rattle.rk_master.proofs.Words.{ap, ◌∙◌, entries_of}
use Rattle.rk_master.proofs.OwnEntries.{read_there}
use Rattle.rk_master.proofs.own_entries.side_read.Goals as goal

pub returns : goal.returns
returns c =
    c.from_vec.ensures
    ∙ c.in_ok-side.ensures.exact
    ∙ ap entries_of c.bytes.ensures.bytes
    ∙ read_there c.args.log.now c.args.number c.requires c.if-number-lt-FIRST_SIDE_SEGMENT.false
