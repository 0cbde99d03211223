use Rattle.std.proofs.Common.{ℕ, List, Ok, ap, ◌∙◌, sym, arith}
use Rattle.std.proofs.lemmas.Result.{err_from_is_err_and}
use Rattle.rk_entry.specs.Spelling.{spelled}
use Rattle.rk_entry.specs.Reading.{read_entry}
use Rattle.rk_entry.proofs.Readings.{fails_only, reads_only}
use Rattle.rk_entry.proofs.EntryLaws.{entry_again, entry_shorter}
use Rattle.rk_entry.proofs.StandLaws.{stands_first, rest_after}
use Rattle.rk_entry.proofs.reading.decode.Goals as goal

pub returns-in_err-entry-clause-only : goal.returns-in_err-entry-clause-only
returns-in_err-entry-clause-only c = λ entry rest lawful is.
    let p = err_from_is_err_and c.from_residual.result c.from_residual.ensures.1 in
    rw (p.1, p.2) (fails_only read_entry c.in_err-entry.field-0.0 c.args.bytes.now (spelled entry) entry rest c.in_err-entry.ensures (entry_again entry rest lawful) is)

pub overflow_sub-result : goal.overflow_sub-result
overflow_sub-result c = omega (arith, entry_shorter c.args.bytes.now (c.in_ok-entry.entry, c.in_ok-entry.rest.now) c.in_ok-entry.ensures)

pub returns-clause-found : goal.returns-clause-found
returns-clause-found c = stands_first c.args.bytes.now c.in_ok-entry.entry c.in_ok-entry.rest.now (λ i. omega (arith, c.type_inv.bytes i)) c.in_ok-entry.ensures

pub returns-clause-only : goal.returns-clause-only
returns-clause-only c = λ entry rest lawful is.
    reads_only read_entry c.args.bytes.now (spelled entry) c.in_ok-entry.entry entry c.in_ok-entry.rest.now rest c.in_ok-entry.ensures (entry_again entry rest lawful) is

pub returns-clause-exact : goal.returns-clause-exact
returns-clause-exact c =
    c.in_ok-entry.ensures
    ∙ ap (λ (rest : List ℕ). Ok (c.in_ok-entry.entry, rest)) (sym (rest_after c.args.bytes.now c.in_ok-entry.entry c.in_ok-entry.rest.now c.in_ok-entry.ensures))
