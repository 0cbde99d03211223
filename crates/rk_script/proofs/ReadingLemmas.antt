-- A script is read line by line: what is read settles what the whole comes to, whatever follows.
use Rattle.std.proofs.Common.{◌≡◌, ◌≢◌, false, ℕ, ◌+◌, ◌<◌, List, [], ◌∷◌, ◌++◌, length, refl, sym, ◌∙◌, ap, arith, append_assoc, append-nil, ne_eqb}
use Rattle.std.specs.Prelude.{◌==◌, Option, Result, Ok, Err}
use Rattle.std.specs.Str.Lines.{lines, lines_of_parts, strip_carriage_return}
use Rattle.std.proofs.lemmas.List.Elements.{All-append}
use Rattle.std.proofs.lemmas.List.Splits.{length-slice_split, slice_split_at, slice_split_none}
use Rattle.rk_script.specs.declared.code.Code.{Code}
use Rattle.rk_script.specs.declared.command.Command.{Command}
use Rattle.rk_script.specs.declared.command.Numbered.{Numbered}
use Rattle.rk_script.specs.declared.script.ParseError.{ParseError}
use Rattle.rk_script.specs.declared.script.ParseError.TheVariants.{Refused, NoMemory}
use Rattle.rk_script.specs.declared.script.TheConstants.{LINE_FEED}
use Rattle.rk_script.specs.Lines.{said_by}
use Rattle.rk_script.specs.Script.{before_others, commands_from}
use Rattle.rk_script.specs.Reading.{AddsLine, IsLineRefusal, IsScriptRefusal, IsWithinLine, after_commands, with_line}
use Rattle.rk_script.proofs.Cuts.{is_feed}

-- a part that another one follows is a line, without its carriage return
pub lines_of_parts-step : (text : List ℕ) (parts : List (List ℕ)) → 0 < length parts → lines_of_parts (text ∷ parts) ≡ strip_carriage_return text ∷ lines_of_parts parts
lines_of_parts-step text [] some = absurd (omega arith)
lines_of_parts-step text (part ∷ parts) some = refl

-- the lines, if the first is complete
pub lines-cut : (text more : List ℕ) → IsWithinLine text → lines (text ++ LINE_FEED ∷ more) ≡ strip_carriage_return text ∷ lines more
lines-cut text more opened = grind (arith, slice_split_at, is_feed, lines_of_parts-step, length-slice_split)

-- one more line is read
pub after_commands-line : (done : List Numbered) (line : ℕ) (said : Option Command) (others : Result (List Numbered) ParseError) → after_commands done (before_others line (Ok said) others) ≡ after_commands (with_line done line said) others
after_commands-line done line said others = grind (arith, append_assoc)

-- what a script comes to, by what is read of it and by what follows
abbrev pub answer : List Numbered → ℕ → List ℕ → Result (List Numbered) ParseError
answer done line text = after_commands done (commands_from line (lines text))

-- the commands read so far, before those of a line and of the lines after it
abbrev pub after_line : List Numbered → ℕ → Result (Option Command) Code → List (List ℕ) → Result (List Numbered) ParseError
after_line done line said texts = after_commands done (before_others line said (commands_from (line + 1) texts))

-- the line that a text ends, before the lines that follow
pub answer-cut : (done : List Numbered) (line : ℕ) (last text more : List ℕ) → IsWithinLine last → IsWithinLine text
    → answer done line (last ++ (text ++ LINE_FEED ∷ more)) ≡ after_line done line (said_by (strip_carriage_return (last ++ text))) (lines more)
answer-cut done line last text more opened within =
    ap (answer done line) (sym (append_assoc last text (LINE_FEED ∷ more)))
    ∙ ap (λ (all : List (List ℕ)). after_commands done (commands_from line all))
    (lines-cut (last ++ text) more (All-append (λ (byte : ℕ). (byte == LINE_FEED) ≡ false) last text opened within))

-- a line is read
pub answer-line : (done new : List Numbered) (line : ℕ) (last text more : List ℕ) → IsWithinLine last → IsWithinLine text
    → AddsLine done new line (strip_carriage_return (last ++ text)) → answer done line (last ++ (text ++ LINE_FEED ∷ more)) ≡ answer new (line + 1) more
answer-line done new line last text more opened within adds = grind (arith, answer-cut, after_commands-line)

-- a line that is refused refuses the script
pub refused-by_line : (e : ParseError) (done : List Numbered) (line : ℕ) (said : Result (Option Command) Code) (texts : List (List ℕ)) (whole : Result (List Numbered) ParseError)
    → whole ≡ after_line done line said texts → IsLineRefusal e line said → IsScriptRefusal e whole
refused-by_line e done line said texts whole is told = grind arith

-- the last line, and none after it
pub answer-last : (done : List Numbered) (line : ℕ) (last : List ℕ) → IsWithinLine last → length last ≢ 0
    → answer done line (last ++ []) ≡ after_line done line (said_by last) []
answer-last done line last opened some = grind (arith, append-nil, slice_split_none, is_feed, ne_eqb)

-- the last line is read
pub answer-end : (done new : List Numbered) (line : ℕ) (last : List ℕ) → IsWithinLine last → length last ≢ 0 → AddsLine done new line last
    → answer done line (last ++ []) ≡ Ok new
answer-end done new line last opened some adds = grind (arith, answer-last, after_commands-line, append-nil)

-- the first refusal, in the words of the caller
pub refusal-is : (e : ParseError) (said : Result (List Numbered) ParseError) → IsScriptRefusal e said → e ≢ NoMemory → said ≡ Err e
refusal-is (Refused line code) said told other = told
refusal-is NoMemory said told other = absurd (other refl)

-- whatever follows, the whole comes to what is read so far before the rest of a piece
abbrev pub Remains : (List ℕ → Result (List Numbered) ParseError) → List Numbered → ℕ → List ℕ → List ℕ → Type 0
Remains whole done line last rest = (more : List ℕ) → whole more ≡ answer done line (last ++ (rest ++ more))

-- the next line of a piece is cut off
pub Remains-cut : (whole : List ℕ → Result (List Numbered) ParseError) (done : List Numbered) (line : ℕ) (last rest text after : List ℕ) → Remains whole done line last rest
    → rest ≡ text ++ LINE_FEED ∷ after → (more : List ℕ) → whole more ≡ answer done line (last ++ (text ++ LINE_FEED ∷ (after ++ more)))
Remains-cut whole done line last rest text after remains cut more = grind (arith, append_assoc)

-- it is read
pub Remains-line : (whole : List ℕ → Result (List Numbered) ParseError) (done new : List Numbered) (line : ℕ) (last left rest text after : List ℕ) → Remains whole done line last rest
    → rest ≡ text ++ LINE_FEED ∷ after → IsWithinLine last → IsWithinLine text → AddsLine done new line (strip_carriage_return (last ++ text)) → left ≡ []
    → Remains whole new (line + 1) left after
Remains-line whole done new line last left rest text after remains cut opened within adds none more =
    Remains-cut whole done line last rest text after remains cut more
    ∙ answer-line done new line last text (after ++ more) opened within adds
    ∙ ap (λ (bytes : List ℕ). answer new (line + 1) (bytes ++ (after ++ more))) (sym none)

-- it is refused
pub Remains-refused : (whole : List ℕ → Result (List Numbered) ParseError) (e : ParseError) (done : List Numbered) (line : ℕ) (last rest text after : List ℕ) → Remains whole done line last rest
    → rest ≡ text ++ LINE_FEED ∷ after → IsWithinLine last → IsWithinLine text → IsLineRefusal e line (said_by (strip_carriage_return (last ++ text)))
    → (more : List ℕ) → IsScriptRefusal e (whole more)
Remains-refused whole e done line last rest text after remains cut opened within told more =
    refused-by_line e done line (said_by (strip_carriage_return (last ++ text))) (lines (after ++ more)) (whole more)
    (Remains-cut whole done line last rest text after remains cut more ∙ answer-cut done line last text (after ++ more) opened within) told
