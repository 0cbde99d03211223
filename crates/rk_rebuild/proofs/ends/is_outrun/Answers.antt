use Rattle.rk_rebuild.proofs.Words.{Option, ap, ◌∙◌, get}
use Rattle.rk_done.specs.declared.completion.Completion.{Completion}
use Rattle.rk_rebuild.proofs.Placing.{outruns, outrun_told}
use Rattle.rk_rebuild.proofs.ends.is_outrun.Goals as goal

pub returns-in-Some : goal.returns-in-Some
returns-in-Some c = λ all is.
    ap (λ (o : Option Completion). outruns o c.args.end.now.seq) (c.in-Some.ensures ∙ ap (get c.args.last.now) c.from.ensures)
    ∙ outrun_told c.args.last.now all c.args.end.now is

pub returns-in-None : goal.returns-in-None
returns-in-None c = λ all is.
    ap (λ (o : Option Completion). outruns o c.args.end.now.seq) (c.in-None.ensures ∙ ap (get c.args.last.now) c.from.ensures)
    ∙ outrun_told c.args.last.now all c.args.end.now is
