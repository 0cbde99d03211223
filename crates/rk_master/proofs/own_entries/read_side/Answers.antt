use Rattle.rk_master.proofs.Words.{◌∙◌, insert}
use Rattle.rk_master.proofs.own_entries.read_side.Goals as goal

pub returns : goal.returns
returns c = c.in_ok-insert.ensures.ok ∙ (λ i. insert c.args.read.now (c.from.ensures i) (c.in_ok-side.ensures i))
