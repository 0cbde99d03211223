use Rattle.rk_settle.proofs.Words.{◌≡◌, ◌-◌, ℕ, find, sym, ap, ◌∙◌, arith, range_with_len}
use Rattle.rk_settle.specs.Settle.{is_unnoticed}
use Rattle.rk_settle.proofs.Found.{masters_in}
use Rattle.rk_settle.proofs.Following.{first_here, first_later, first_none}
use Rattle.rk_settle.proofs.looks.unnoticed.Goals as goal

pub loop-index-init : goal.loop-index-init
loop-index-init g c =
    λ w is.
    let counted : c.args.masters - 0 ≡ w.coordinator.masters = omega (arith, c.requires, masters_in g.R.Replica.segments c.args.at.now w is c.spent.ensures.masters) in
    ap (λ (count : ℕ). find (is_unnoticed w) (range_with_len 1 count)) counted

pub returns-then-is_unnoticed-clause-next : goal.returns-then-is_unnoticed-clause-next
returns-then-is_unnoticed-clause-next g c =
    λ w is.
    sym (c.loop-index.invariant w is)
    ∙ first_here (is_unnoticed w) c.loop-index.index c.args.masters c.loop-index-test.true (c.is_unnoticed.ensures w is ∙ c.if-is_unnoticed.true)

pub loop-index-preserved : goal.loop-index-preserved
loop-index-preserved g c =
    λ w is.
    sym (first_later (is_unnoticed w) c.loop-index.index c.args.masters c.loop-index-test.true (c.is_unnoticed.ensures w is ∙ c.if-is_unnoticed.false))
    ∙ c.loop-index.invariant w is

pub returns-clause-next : goal.returns-clause-next
returns-clause-next g c =
    λ w is.
    sym (c.loop-index.invariant w is)
    ∙ first_none (is_unnoticed w) c.loop-index.index c.args.masters (omega (arith, c.loop-index-test.false))
