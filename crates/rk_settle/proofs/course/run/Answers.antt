use Rattle.std.specs.Global.{Vec}
use Rattle.std.proofs.Common.{◌≡◌, List, IfErr, OnOk, ap, subst, ◌∙◌}
use Rattle.rk_types.specs.declared.node.Said.{Said}
use Rattle.rk_settle.specs.Outcomes.{Ends, Fails, Keeps}
use Rattle.rk_settle.proofs.course.run.Goals as goal

pub returns-clause-ok : goal.returns-clause-ok
returns-clause-ok g c =
    let had : c.after-progress.result.said.items ≡ c.args.said.now.items = ap (λ (list : Vec Said). list.items) (c.after-progress.ensures.said ∙ c.replace.ensures.value) in
    λ command tells.
    subst (λ (list : List Said). OnOk c.make_moves-end.result (Ends g.R.Replica.segments g.R.Replica.faults c.args.cluster.now c.make_moves-end.new.cluster command list
    c.make_moves-end.new.progress.said.items)) had (c.make_moves-end.ensures.ok command tells)

pub returns-clause-err : goal.returns-clause-err
returns-clause-err g c =
    let had : c.after-progress.result.said.items ≡ c.args.said.now.items = ap (λ (list : Vec Said). list.items) (c.after-progress.ensures.said ∙ c.replace.ensures.value) in
    λ command tells.
    subst (λ (list : List Said). IfErr c.make_moves-end.result (Fails g.R.Replica.segments g.R.Replica.faults c.args.cluster.now c.make_moves-end.new.cluster command list
    c.make_moves-end.new.progress.said.items)) had (c.make_moves-end.ensures.err command tells)

pub returns-clause-kept : goal.returns-clause-kept
returns-clause-kept g c =
    let had : c.after-progress.result.said.items ≡ c.args.said.now.items = ap (λ (list : Vec Said). list.items) (c.after-progress.ensures.said ∙ c.replace.ensures.value) in
    subst (λ (list : List Said). Keeps list c.make_moves-end.new.progress.said.items) had c.make_moves-end.ensures.kept
