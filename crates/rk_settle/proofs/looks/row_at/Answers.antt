use Rattle.rk_settle.proofs.Words.{Option, IfSome, sym, subst, ◌∙◌, Row, AreNamed}
use Rattle.rk_settle.proofs.Found.{row_there}
use Rattle.rk_settle.proofs.looks.row_at.Goals as goal

pub returns-clause-named : goal.returns-clause-named
returns-clause-named g c =
    let at = c.args.at.now in
    subst (λ (row : Option Row). IfSome row (λ row. AreNamed at.masters row.phase)) (sym c.row.ensures)
    (row_there at at.running c.rows.result.now c.args.tablet (sym c.spent.ensures.spent ∙ c.if-spent.false) c.spent.ensures.formed c.spent.ensures.masters c.rows.ensures)
