use Rattle.rk_lane.proofs.Words.{◌∙◌, ℕ, List, sym, Lost, IsUnanswered}
use Rattle.rk_types.specs.declared.node.Node.TheVariants as nodes
use Rattle.rk_message.specs.declared.message.Body.TheVariants as bodies
use Rattle.rk_lane.specs.Backing.{IsLogAt}
use Rattle.rk_lane.proofs.Answered.{handed_on, read_unanswered}
use Rattle.rk_lane.proofs.backing.read.Goals as goal

-- the device failed, or memory was wanting
pub returns-in_err-answer-clause-err : goal.returns-in_err-answer-clause-err
returns-in_err-answer-clause-err g c =
    handed_on c.from_residual.result c.in_err-answer.field-0.0
    (λ (cause : Lost). (log : ℕ → ℕ → List ℕ) → IsLogAt c.args.masters.now log c.args.wanted
    → IsUnanswered g.R.Replica.segments g.R.Replica.faults c.args.backup.now c.take_read.new.backup (nodes.Master c.args.reader) (bodies.Read c.args.wanted) log cause)
    c.from_residual.ensures.1
    (λ log there.
    read_unanswered g.R.Replica.segments g.R.Replica.faults c.args.backup.now c.take_read.new.backup c.args.reader log c.in_err-answer.ensures.number
    c.args.wanted c.segment_at-log.result.now c.in_err-answer.field-0.0 (there.bytes ∙ sym (c.segment_at-log.ensures there.it there.at))
    c.in_err-answer.ensures.segments c.in_err-answer.ensures.copied c.in_err-answer.ensures.cause)
