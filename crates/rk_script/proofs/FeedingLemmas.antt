-- At the end of its script, a reader answers what the whole says.
use Rattle.std.proofs.Common.{◌≡◌, ◌≢◌, ℕ, ◌<◌, ◌≤◌, List, [], ◌++◌, length, refl, sym, subst, ◌∙◌, ap, arith, append-nil}
use Rattle.std.specs.Prelude.{Result, Ok, Err}
use Rattle.std.specs.Str.Lines.{lines}
use Rattle.std.proofs.lemmas.Bool.{le-ltb, lt-ltb}
use Rattle.rk_script.specs.declared.code.Code.TheVariants.{ScriptLength}
use Rattle.rk_script.specs.declared.progress.Progress.{Progress}
use Rattle.rk_script.specs.declared.script.ParseError.{ParseError}
use Rattle.rk_script.specs.declared.script.ParseError.TheVariants.{Refused, NoMemory}
use Rattle.rk_script.specs.declared.script.TheConstants.{LONGEST_SCRIPT}
use Rattle.rk_script.specs.Feeding.{Reader, WasFed}
use Rattle.rk_script.specs.Reading.{Settles, answer_of}
use Rattle.rk_script.specs.Script.{commands_from, script_of}
use Rattle.rk_script.proofs.ReadingLemmas.{refusal-is}

-- what a script that is not too long says is what its lines come to
pub script_of-short : (reader : Reader) (fed : List ℕ) → WasFed reader fed → reader.count ≤ LONGEST_SCRIPT → script_of fed ≡ commands_from 1 (lines (fed ++ []))
script_of-short reader fed was few =
    rw (le-ltb LONGEST_SCRIPT (length fed) (omega (arith, was.count, few))) (ap (λ (bytes : List ℕ). commands_from 1 (lines bytes)) (sym (append-nil fed)))

-- at the end, if the lines were read
pub said-by_lines : (reader : Reader) (progress : Progress) (fed : List ℕ) → WasFed reader fed → reader.count ≤ LONGEST_SCRIPT → reader.read ≡ Ok progress → script_of fed ≡ answer_of progress []
said-by_lines reader progress fed was few is =
    script_of-short reader fed was few
    ∙ subst (λ (read : Result Progress ParseError). Settles read [] (commands_from 1 (lines (fed ++ [])))) is (was.read (omega (arith, was.count, few)) [])

-- at the end, if a line was refused
pub said-by_refusal : (reader : Reader) (e : ParseError) (fed : List ℕ) → WasFed reader fed → reader.count ≤ LONGEST_SCRIPT → reader.read ≡ Err e → e ≢ NoMemory → script_of fed ≡ Err e
said-by_refusal reader e fed was few is other =
    script_of-short reader fed was few
    ∙ refusal-is e (commands_from 1 (lines (fed ++ [])))
    (subst (λ (read : Result Progress ParseError). Settles read [] (commands_from 1 (lines (fed ++ [])))) is (was.read (omega (arith, was.count, few)) [])) other

-- at the end, if the script is too long
pub said-long : (reader : Reader) (fed : List ℕ) → WasFed reader fed → LONGEST_SCRIPT < reader.count → script_of fed ≡ Err (Refused 0 ScriptLength)
said-long reader fed was long = rw (lt-ltb LONGEST_SCRIPT (length fed) (omega (arith, was.count, long))) refl
