use Rattle.std.proofs.Common.{true, false, sym, ◌∙◌}
use Rattle.rk_conclude.proofs.Owners.{nobody, owned_by, unowned}
use Rattle.rk_conclude.proofs.results.owner_of.Goals as goal

pub returns-in_err-first : goal.returns-in_err-first
returns-in_err-first g c = rw c.from_residual.ensures (nobody g.R.Replica.segments c.args.lanes.now (sym c.in_err-first.ensures.value))

pub returns-in_err-master : goal.returns-in_err-master
returns-in_err-master g c =
    rw c.from_residual-in_err-master.ensures
    (unowned g.R.Replica.segments c.args.lanes.now c.in_ok-first.field-0.now (sym c.in_ok-first.ensures.value) c.in_err-master.ensures)

pub returns-then-are_owned : goal.returns-then-are_owned
returns-then-are_owned g c =
    owned_by g.R.Replica.segments c.args.lanes.now c.in_ok-first.field-0.now (sym c.in_ok-first.ensures.value) c.in_ok-master.master true c.in_ok-master.ensures
    (λ sessions cluster is. c.are_owned.ensures sessions cluster is ∙ c.if-are_owned.true)

pub returns-else-are_owned : goal.returns-else-are_owned
returns-else-are_owned g c =
    owned_by g.R.Replica.segments c.args.lanes.now c.in_ok-first.field-0.now (sym c.in_ok-first.ensures.value) c.in_ok-master.master false c.in_ok-master.ensures
    (λ sessions cluster is. c.are_owned.ensures sessions cluster is ∙ c.if-are_owned.false)
