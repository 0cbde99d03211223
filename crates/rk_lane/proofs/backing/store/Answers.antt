use Rattle.rk_lane.proofs.Words.{◌≡◌, ℕ, List, Err, ap, Lost, IsUnanswered}
use Rattle.rk_types.specs.declared.node.Node.TheVariants as nodes
use Rattle.rk_outside.specs.declared.replica.Lost.TheVariants as losses
use Rattle.rk_message.specs.declared.message.Body.TheVariants as bodies
use Rattle.rk_lane.proofs.Answered.{append_backed, append_unanswered, handed_on}
use Rattle.rk_lane.proofs.backing.store.Goals as goal

-- the device failed, or memory was wanting
pub returns-in_err-answer-clause-err : goal.returns-in_err-answer-clause-err
returns-in_err-answer-clause-err g c =
    handed_on c.from_residual.result c.in_err-answer.field-0.0
    (λ (cause : Lost). (log : ℕ → ℕ → List ℕ)
    → IsUnanswered g.R.Replica.segments g.R.Replica.faults c.args.backup.now c.take_append.new.backup (nodes.Master c.args.sender) (bodies.Append c.args.append.now) log cause)
    c.from_residual.ensures.1
    (λ log.
    append_unanswered g.R.Replica.segments g.R.Replica.faults c.args.backup.now c.take_append.new.backup c.args.sender log c.in_err-answer.ensures.number
    c.args.append.now
    (g.R.Replica.lengths c.args.backup.now.replica c.args.sender c.args.append.now.segment)
    (g.R.Replica.lengths c.take_append.new.backup.replica c.args.sender c.args.append.now.segment)
    c.in_err-answer.field-0.0 c.in_err-answer.ensures.segments (λ (failed : c.in_err-answer.field-0.0 ≡ losses.Failed). c.in_err-answer.ensures.asked (ap Err failed))
    (g.met.R.Replica.agrees c.args.backup.now.replica c.args.sender c.args.append.now.segment) c.in_err-answer.ensures.cause)

-- it reports how much is stored
pub returns-clause-ok : goal.returns-clause-ok
returns-clause-ok g c =
    λ log.
    append_backed g.R.Replica.segments g.R.Replica.faults c.args.backup.now c.take_append.new.backup c.args.sender c.args.append.now
    (g.R.Replica.lengths c.args.backup.now.replica c.args.sender c.args.append.now.segment)
    (g.R.Replica.lengths c.take_append.new.backup.replica c.args.sender c.args.append.now.segment)
    log c.in_ok-answer.ensures.number c.in_ok-answer.answer c.in_ok-answer.ensures.backed c.in_ok-answer.ensures.segments
    (g.met.R.Replica.agrees c.take_append.new.backup.replica c.args.sender c.args.append.now.segment)
    c.in_ok-answer.ensures.cause (c.is_within_segment.ensures c.if-not-is_within_segment.false)
