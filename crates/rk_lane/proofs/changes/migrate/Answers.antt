use Rattle.rk_lane.proofs.Words.{ℕ, max, sym, ap, ◌∙◌, Coordinator, greatest, terms_of, Parts}
use Rattle.rk_lane.proofs.Moved.{may_rise, moved}
use Rattle.rk_lane.proofs.changes.migrate.Goals as goal

pub migrate-requires : goal.migrate-requires
migrate-requires c = may_rise c.args.parts.now c.requires.kept

pub returns-clause-ok : goal.returns-clause-ok
returns-clause-ok c =
    let old : Parts = c.args.parts.now in
    moved old c.raise.new.self c.args.tablet c.args.to c.quiet.result c.requires (sym c.has_crashed.ensures ∙ c.if-has_crashed.false)
    c.in_default.ensures.lawful
    (c.raise.ensures
    ∙ ap (λ (term : ℕ). record old { coordinator = c.migrate.new.self; top = max old.top term }) c.greatest_term-term.ensures
    ∙ ap (λ (coordinator : Coordinator). record old { coordinator = coordinator; top = max old.top (greatest (terms_of coordinator.rows)) }) c.in_default.ensures.ok)
    c.quiet.ensures
