-- What a reader answers is what the script says that it was fed.
use Rattle.std.proofs.Common.{◌≡◌, ◌≢◌, ℕ, List, [], ◌∙◌, sym, subst}
use Rattle.std.specs.Prelude.{All, Ok, Err}
use Rattle.std.proofs.lemmas.Result.{IfErr-weaker, IfOk-weaker, err_from_is_err_and}
use Rattle.rk_script.specs.Feeding.{Reader, WasFed}
use Rattle.rk_script.specs.Lawful.{IsLawful}
use Rattle.rk_script.specs.Reading.{IsScriptRefusal, answer_of}
use Rattle.rk_script.specs.Script.{script_of}
use Rattle.rk_script.specs.declared.script.ParseError.TheVariants.{NoMemory}
use Rattle.rk_script.proofs.FeedingLemmas.{said-by_lines, said-by_refusal}
use Rattle.rk_script.proofs.LawfulLemmas.{script_of-lawful}
use Rattle.rk_script.proofs.ReadingLemmas.{refusal-is}
use Rattle.rk_script.proofs.reader.ScriptReader.finish.Goals as goal

pub returns-in_err-self-clause-err : goal.returns-in_err-self-clause-err
returns-in_err-self-clause-err c =
    let p = err_from_is_err_and c.from_residual.result c.from_residual.ensures.1 in
    let reader : Reader = record { count = c.self.inside.count; read = c.self.inside.read } in
    rw (p.1, p.2)
    (λ other fed was.
    said-by_refusal reader c.in_err-self.field-0.0 fed (subst (λ (r : Reader). WasFed r fed) (sym c.self.view_is) was) c.if-self-gt-LONGEST_SCRIPT.false
    c.in_err-self.was other)

pub returns-clause-ok : goal.returns-clause-ok
returns-clause-ok c =
    let reader : Reader = record { count = c.self.inside.count; read = c.self.inside.read } in
    let progress = c.in_ok-self.field-0 in
    IfOk-weaker c.read_end.result (λ commands. answer_of progress [] ≡ Ok commands.items)
    (λ commands. (fed : List ℕ) → WasFed c.args.self fed → script_of fed ≡ Ok commands.items)
    (λ commands said fed was.
    said-by_lines reader progress fed (subst (λ (r : Reader). WasFed r fed) (sym c.self.view_is) was) c.if-self-gt-LONGEST_SCRIPT.false c.in_ok-self.was ∙ said)
    c.read_end.ensures.ok

pub returns-clause-err : goal.returns-clause-err
returns-clause-err c =
    let reader : Reader = record { count = c.self.inside.count; read = c.self.inside.read } in
    let progress = c.in_ok-self.field-0 in
    IfErr-weaker c.read_end.result (λ e. IsScriptRefusal e (answer_of progress []))
    (λ e. e ≢ NoMemory → (fed : List ℕ) → WasFed c.args.self fed → script_of fed ≡ Err e)
    (λ e told other fed was.
    said-by_lines reader progress fed (subst (λ (r : Reader). WasFed r fed) (sym c.self.view_is) was) c.if-self-gt-LONGEST_SCRIPT.false c.in_ok-self.was
    ∙ refusal-is e (answer_of progress []) told other)
    c.read_end.ensures.err

pub returns-clause-lawful : goal.returns-clause-lawful
returns-clause-lawful c =
    let reader : Reader = record { count = c.self.inside.count; read = c.self.inside.read } in
    let progress = c.in_ok-self.field-0 in
    IfOk-weaker c.read_end.result (λ commands. answer_of progress [] ≡ Ok commands.items)
    (λ commands. (fed : List ℕ) → WasFed c.args.self fed → All IsLawful commands.items)
    (λ commands said fed was.
    script_of-lawful fed commands.items
    (said-by_lines reader progress fed (subst (λ (r : Reader). WasFed r fed) (sym c.self.view_is) was) c.if-self-gt-LONGEST_SCRIPT.false c.in_ok-self.was ∙ said))
    c.read_end.ensures.ok
