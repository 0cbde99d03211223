use Rattle.rk_master.proofs.Words.{◌≤◌, List, [], ◌∷◌, ◌++◌, length, length-append, sym, ap, ◌∙◌, subst, arith, Entry, Log, AreSpelled}
use Rattle.rk_master.proofs.staging.stage.Goals as goal

pub returns-clause-state : goal.returns-clause-state
returns-clause-state c =
    let applied = c.args.state.now.applied in
    let entries : List Entry = c.args.state.now.log.entries in
    let before : applied ≤ length entries = c.requires.state.within in
    let longer : applied ≤ length (entries ++ c.args.entry ∷ []) = omega (arith, before, length-append entries (c.args.entry ∷ [])) in
    let log = c.in_ok-append.ensures.log in
    record {
      within = subst (λ (log : Log). applied ≤ length log.entries) (sym log) longer;
      staged = c.in_ok-append.ensures.staged applied before c.requires.state.staged;
      tablets = c.requires.state.tablets;
      sides = subst (λ (log : Log). AreSpelled log.sides) (sym log) c.requires.state.sides;
      backups = ap (λ (log : Log). length log.known) log ∙ c.requires.state.backups;
    }
