-- The last line is read, or refuses the script.
use Rattle.std.proofs.Common.{◌≢◌, [], length, arith}
use Rattle.std.proofs.lemmas.Grind.{common_steps}
use Rattle.std.proofs.lemmas.Result.{err_from_is_err_and}
use Rattle.rk_script.specs.Lines.{said_by}
use Rattle.rk_script.specs.Reading.{answer_of}
use Rattle.rk_script.proofs.ReadingLemmas.{answer-end, answer-last, refused-by_line}
use Rattle.rk_script.proofs.progress.read_end.Goals as goal

pub returns-in_err-add_line-clause-err : goal.returns-in_err-add_line-clause-err
returns-in_err-add_line-clause-err c =
    let p = err_from_is_err_and c.from_residual.result c.from_residual.ensures.1 in
    let progress = c.args.progress in
    let some : length progress.last.items ≢ 0 = λ none. grind (arith, common_steps) in
    rw (p.1, p.2)
    (refused-by_line c.in_err-add_line.field-0.0 progress.commands.items progress.line (said_by progress.last.items) [] (answer_of progress [])
    (answer-last progress.commands.items progress.line progress.last.items c.requires some)
    (rw c.as_slice.ensures.value at c.in_err-add_line.ensures.err))

pub returns-clause-ok : goal.returns-clause-ok
returns-clause-ok c =
    let progress = c.args.progress in
    let some : length progress.last.items ≢ 0 = λ none. grind (arith, common_steps) in
    answer-end progress.commands.items c.add_line.new.commands.items progress.line progress.last.items c.requires some
    (rw c.as_slice.ensures.value at c.in_ok-add_line.ensures.ok)
