use Rattle.rk_lane.proofs.Words.{◌-◌, refl, ◌∙◌, get_or_from_slice_get, IfErr-weaker, IfOk-weaker}
use Rattle.std.specs.Option.{option_to_list}
use Rattle.rk_lane.proofs.Words.{sending}
use Rattle.rk_lane.proofs.Answered.{backed_there, unanswered_there}
use Rattle.rk_lane.proofs.backing.answer_at.Goals as goal

pub returns-clause-ok : goal.returns-clause-ok
returns-clause-ok g c =
    IfOk-weaker c.answer.result _ _
    (λ send by before log there logs.
    backed_there g.R.Replica.segments g.R.Replica.faults c.args.backups.now.items c.args.backup c.index_mut-it.result.now before c.answer.new.backup c.args.message.now c.args.message.now log
    (c.index_mut-it.ensures.value ∙ get_or_from_slice_get c.args.backups.now.items (c.args.backup - 1) before c.index_mut-it.result.now there) refl
    (sending (option_to_list send)) (by log logs))
    c.answer.ensures.ok

pub returns-clause-err : goal.returns-clause-err
returns-clause-err g c =
    IfErr-weaker c.answer.result _ _
    (λ cause by before log there logs.
    unanswered_there g.R.Replica.segments g.R.Replica.faults c.args.backups.now.items c.args.backup c.index_mut-it.result.now before c.answer.new.backup c.args.message.now c.args.message.now log
    (c.index_mut-it.ensures.value ∙ get_or_from_slice_get c.args.backups.now.items (c.args.backup - 1) before c.index_mut-it.result.now there) refl
    cause (by log logs))
    c.answer.ensures.err
