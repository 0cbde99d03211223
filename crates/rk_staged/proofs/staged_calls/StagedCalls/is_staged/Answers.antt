use Rattle.rk_staged.proofs.Words.{ap, ◌∙◌, ℕ, NumberMap, Call}
use Rattle.std.proofs.Common.{nat_lt}
use Rattle.rk_staged.specs.Counts.{has_call}
use Rattle.rk_staged.proofs.Counting.{some_counted}
use Rattle.rk_staged.proofs.staged_calls.StagedCalls.is_staged.Goals as goal

pub returns : goal.returns
returns c =
    ap (λ (n : ℕ). nat_lt 0 n) (c.count.ensures ∙ c.self.invariant.counts_are c.args.client c.args.seq)
    ∙ some_counted c.self.inside.calls c.args.client c.args.seq
    ∙ ap (λ (calls : NumberMap Call). has_call calls c.args.client c.args.seq) c.self.view_is
