use Rattle.std.proofs.Common.{◌<◌, ◌≤◌, length, arith, inl, inr, ⊎_elim}
use Rattle.std.proofs.lemmas.Bool.{cases_lt}
use Rattle.rk_backup_node.proofs.Fronts.{front_to, front_whole}
use Rattle.rk_backup_node.proofs.read.common_front.Goals as goal

-- the first byte that differs ends it
pub returns-then-read-count-clause-front : goal.returns-then-read-count-clause-front
returns-then-read-count-clause-front c =
    front_to c.loop-count.count c.args.read.now c.args.log.now c.loop-count.invariant (omega arith) (omega arith)
    c.if-read-count.true

-- else one of the lists does
pub returns-clause-front : goal.returns-clause-front
returns-clause-front c =
    front_whole c.min-most.result c.args.read.now c.args.log.now (λ k d below. c.loop-count.invariant k d (omega (arith, below))) (omega arith) (omega arith)
    (⊎_elim (λ (less : length c.args.read.now < length c.args.log.now). inl (omega (arith, less)))
    (λ (more : length c.args.log.now ≤ length c.args.read.now). inr (omega (arith, more)))
    (cases_lt (length c.args.read.now) (length c.args.log.now)))
