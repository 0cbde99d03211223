use Rattle.std.proofs.Common.{◌-◌, Some, None, refl, ap, subst, arith, IsSome}
use Rattle.rk_staged.proofs.Counting.{one_less}
use Rattle.rk_staged.proofs.call_counts.CallCounts.subtract.Goals as goal

pub returns-then-count-le1 : goal.returns-then-count-le1
returns-then-count-le1 c =
    one_less c.args.self.now.counts c.remove.new.self c.args.client c.args.seq None c.remove.ensures.updates
    (omega (arith, c.count-count.ensures, c.if-count-le1.true))

pub returns-in-Some : goal.returns-in-Some
returns-in-Some c =
    let less = c.count-count.result - 1 in
    one_less c.args.self.now.counts (c.get_mut.follows.lender less) c.args.client c.args.seq (Some less)
    ((c.get_mut.follows.holds less).3 (subst IsSome c.in-Some.ensures.value refl))
    (ap (λ n. n - 1) c.count-count.ensures)
