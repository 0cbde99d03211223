-- A script is fed whole.
use Rattle.std.proofs.Common.{◌≡◌, ℕ, List, [], ◌∙◌, ap, sym}
use Rattle.std.specs.Prelude.{◌≢◌, All, Ok, Err}
use Rattle.std.proofs.lemmas.Result.{IfErr-weaker, IfOk-weaker, err_from_is_err_and}
use Rattle.rk_script.specs.Feeding.{WasFed}
use Rattle.rk_script.specs.Lawful.{IsLawful}
use Rattle.rk_script.specs.Script.{script_of}
use Rattle.rk_script.specs.declared.script.ParseError.TheVariants.{NoMemory}
use Rattle.rk_script.proofs.FeedingLemmas.{said-long}
use Rattle.rk_script.proofs.script.parse.Goals as goal

pub returns-in_err-feed-clause-err : goal.returns-in_err-feed-clause-err
returns-in_err-feed-clause-err c =
    let p = err_from_is_err_and c.from_residual.result c.from_residual.ensures.1 in
    let script = c.args.script.now in
    let fed : WasFed c.feed.new.self script = c.feed.ensures.fed [] c.new-reader.ensures.fed in
    rw (p.1, p.2)
    (λ other.
    let long = c.in_err-feed.ensures.err other in
    said-long c.feed.new.self script fed (c.feed.ensures.long.0 (c.in_err-feed.was ∙ ap Err long)) ∙ ap Err (sym long))

pub returns-clause-ok : goal.returns-clause-ok
returns-clause-ok c =
    let script = c.args.script.now in
    let fed : WasFed c.feed.new.self script = c.feed.ensures.fed [] c.new-reader.ensures.fed in
    IfOk-weaker c.finish.result (λ commands. (bytes : List ℕ) → WasFed c.feed.new.self bytes → script_of bytes ≡ Ok commands.items)
    (λ commands. script_of script ≡ Ok commands.items) (λ commands said. said script fed) c.finish.ensures.ok

pub returns-clause-err : goal.returns-clause-err
returns-clause-err c =
    let script = c.args.script.now in
    let fed : WasFed c.feed.new.self script = c.feed.ensures.fed [] c.new-reader.ensures.fed in
    IfErr-weaker c.finish.result (λ e. e ≢ NoMemory → (bytes : List ℕ) → WasFed c.feed.new.self bytes → script_of bytes ≡ Err e)
    (λ e. e ≢ NoMemory → script_of script ≡ Err e) (λ e told other. told other script fed) c.finish.ensures.err

pub returns-clause-lawful : goal.returns-clause-lawful
returns-clause-lawful c =
    let script = c.args.script.now in
    let fed : WasFed c.feed.new.self script = c.feed.ensures.fed [] c.new-reader.ensures.fed in
    IfOk-weaker c.finish.result (λ commands. (bytes : List ℕ) → WasFed c.feed.new.self bytes → All IsLawful commands.items)
    (λ commands. All IsLawful commands.items) (λ commands said. said script fed) c.finish.ensures.lawful
