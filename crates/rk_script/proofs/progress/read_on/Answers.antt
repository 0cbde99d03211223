-- A line is read, or refuses the script; what the piece has of the next line is kept.
use Rattle.std.proofs.Common.{◌≡◌, ℕ, ◌++◌, ◌∷◌, List, false, length, ap, sym, subst, arith, length-append}
use Rattle.std.specs.Prelude.{◌==◌}
use Rattle.std.proofs.lemmas.List.Elements.{All-nil}
use Rattle.std.proofs.lemmas.Result.{err_from_is_err_and}
use Rattle.rk_script.specs.declared.script.TheConstants.{LINE_FEED}
use Rattle.rk_script.specs.Reading.{IsWithinLine, answer_of}
use Rattle.rk_script.proofs.ReadingLemmas.{Remains-line, Remains-refused}
use Rattle.rk_script.proofs.progress.read_on.Goals as goal

pub lines-preserved : goal.lines-preserved
lines-preserved c =
    let none = c.in_ok-end_line.ensures.last in
    let before : length c.lines.rest.now ≡ length (c.in-Some.text.now ++ LINE_FEED ∷ c.in-Some.after.now) = ap (λ (bytes : List ℕ). length bytes) c.in-Some.ensures.cut in
    let after = length-append c.in-Some.text.now (LINE_FEED ∷ c.in-Some.after.now) in
    let left : length c.end_line.new.last.items ≡ 0 = ap (λ (bytes : List ℕ). length bytes) none in
    record {
      remains =
          Remains-line (λ more. answer_of c.args.progress (c.args.piece.now ++ more)) c.lines.next.commands.items c.end_line.new.commands.items c.lines.next.line
          c.lines.next.last.items c.end_line.new.last.items c.lines.rest.now c.in-Some.text.now c.in-Some.after.now
          c.lines.invariant.remains c.in-Some.ensures.cut c.lines.invariant.within c.in-Some.ensures.line c.in_ok-end_line.ensures.ok none;
      within = subst (λ (bytes : List ℕ). IsWithinLine bytes) (sym none) (All-nil (λ (byte : ℕ). (byte == LINE_FEED) ≡ false));
      lines = omega (arith, c.lines.invariant.lines, before, after, left);
      commands = omega (arith, c.lines.invariant.commands, before, after, left, c.in_ok-end_line.ensures.few);
    }

pub returns-in_err-end_line-clause-settles : goal.returns-in_err-end_line-clause-settles
returns-in_err-end_line-clause-settles c =
    let p = err_from_is_err_and c.from_residual.result c.from_residual.ensures.1 in
    rw (p.1, p.2)
    (Remains-refused (λ more. answer_of c.args.progress (c.args.piece.now ++ more)) c.in_err-end_line.field-0.0 c.lines.next.commands.items c.lines.next.line
    c.lines.next.last.items c.lines.rest.now c.in-Some.text.now c.in-Some.after.now
    c.lines.invariant.remains c.in-Some.ensures.cut c.lines.invariant.within c.in-Some.ensures.line c.in_err-end_line.ensures.err)
