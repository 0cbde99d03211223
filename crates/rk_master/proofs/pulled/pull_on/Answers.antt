use Rattle.rk_master.proofs.Words.{ℕ, sym, subst, ◌∙◌, All, IsLawfulHeld, Master, master_of}
use Rattle.rk_master.proofs.Receiving.{batch_last, batch_more}
use Rattle.rk_master.proofs.pulled.pull_on.Goals as goal

pub take_batch-requires-clause-lawful : goal.take_batch-requires-clause-lawful
take_batch-requires-clause-lawful c = subst (All IsLawfulHeld) (sym c.in_ok-items.ensures) c.requires.lawful

pub returns-then-not-has_all-clause-ok : goal.returns-then-not-has_all-clause-ok
returns-then-not-has_all-clause-ok c =
    let number : ℕ = c.args.pulled.now.tenure.tablet in
    batch_more (master_of c.args.state.now) (master_of c.take_batch.new.state) number c.in_ok-items.items.items c.args.pulled.now c.in_ok-items.ensures
    (c.in_ok-has_all.ensures.ok number c.requires.place) (sym c.in_ok-has_all.ensures.last ∙ c.if-not-has_all.true)

pub seal_at-requires-clause-within : goal.seal_at-requires-clause-within
seal_at-requires-clause-within c = (c.in_ok-has_all.ensures.place c.args.pulled.now.tenure.tablet c.requires.place).within

pub end_at-requires-clause-within : goal.end_at-requires-clause-within
end_at-requires-clause-within c =
    let number : ℕ = c.args.pulled.now.tenure.tablet in
    (c.in_ok-seal_at.ensures.place number (c.in_ok-has_all.ensures.place number c.requires.place)).within

pub returns-clause-ok : goal.returns-clause-ok
returns-clause-ok c =
    let number : ℕ = c.args.pulled.now.tenure.tablet in
    let there = c.in_ok-has_all.ensures.place number c.requires.place in
    let sealed : Master = master_of c.seal_at.new.state in
    batch_last (master_of c.args.state.now) (master_of c.take_batch.new.state) sealed (master_of c.end_at.new.state) number c.in_ok-items.items.items c.args.pulled.now c.in_ok-items.ensures
    (c.in_ok-has_all.ensures.ok number c.requires.place) (sym c.in_ok-has_all.ensures.last ∙ c.if-not-has_all.false) (c.in_ok-seal_at.ensures.ok number there)
    (c.in_ok-end_at.ensures.ok number (c.in_ok-seal_at.ensures.place number there))
