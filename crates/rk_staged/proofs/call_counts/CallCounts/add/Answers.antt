use Rattle.std.proofs.Common.{◌+◌, ap}
use Rattle.rk_staged.proofs.Counting.{one_more}
use Rattle.rk_staged.proofs.call_counts.CallCounts.add.Goals as goal

pub returns-clause-ok : goal.returns-clause-ok
returns-clause-ok c =
    one_more c.args.self.now.counts c.insert.new.self c.args.client c.args.seq (c.count-count.result + 1) c.in_ok-insert.ensures.updates (ap (λ n. n + 1) c.count-count.ensures)
