-- What a reader was fed of a script, against what is gone of it from its source.
use Rattle.rk_play.proofs.Words.{◌≡◌, ℕ, ◌+◌, ◌<◌, ◌≤◌, List, ◌++◌, length, take, arith, append-nil, length-append, Result, Err}
use Rattle.rk_play.proofs.Words.{Consumes-trans, PIECE, WasFed, script_of, ScriptLength, Numbered, ParseError, LONGEST_SCRIPT, Says}
use Rattle.rk_play.proofs.Words.{script_error_by}
use Rattle.std.specs.Prelude.{Option}
use Rattle.std.specs.Io.KnownBytes.{Consumes, IsAtEnd}
use Rattle.std.proofs.lemmas.Bool.{lt-ltb}
use Rattle.rk_outside.specs.Parts.{ConsumesBetween}
use Rattle.rk_script.specs.Feeding.{Reader}
use Rattle.rk_script.specs.declared.code.Code.{Code}
use Rattle.rk_script.specs.declared.script.ParseError.TheVariants as of_script
use Rattle.rk_play.specs.declared.reading.ScriptError.TheVariants as errors

-- the reader was fed what is gone from the source, and that is not too long
pub record ReadsFrom (before now : Option (List ℕ)) (reader : Reader) : Type 0 where
  pub fed : List ℕ
  pub few : length fed ≤ LONGEST_SCRIPT
  pub consumed : Consumes before now fed
  pub was_fed : WasFed reader fed

module _ (before now after : Option (List ℕ)) (reader : Reader) (reads : ReadsFrom before now reader) where
  -- .. and one piece more
  pub reads_on : (next : Reader) (piece : List ℕ) → Consumes now after piece → WasFed next (reads.fed ++ piece) → (LONGEST_SCRIPT < next.count → ⊥)
      → ReadsFrom before after next
  reads_on next piece gone was within = record {
    fed = reads.fed ++ piece;
    few = omega (arith, was.count, within);
    consumed = Consumes-trans before now after reads.fed piece reads.consumed gone;
    was_fed = was;
  }

  -- with one piece more a piece past the longest is gone at most
  pub reads_few : (piece : List ℕ) → Consumes now after piece → length piece ≤ PIECE → ConsumesBetween before after 0 (LONGEST_SCRIPT + PIECE)
  reads_few piece gone short = record {
    front = reads.fed ++ piece;
    no_fewer = omega arith;
    no_more = omega (arith, length-append reads.fed piece, reads.few, short);
    consumed = Consumes-trans before now after reads.fed piece reads.consumed gone;
  }

  -- the script says what those bytes say, if nothing more came
  pub reads_whole : (count : ℕ) (buffer : List ℕ) (said : Result (List Numbered) ParseError) → count ≡ 0 → Consumes now after (take count buffer) → IsAtEnd after
      → script_of reads.fed ≡ said → Says before after said
  reads_whole count buffer said none gone end is = grind (arith, append-nil, script_of)

-- a script is refused as a whole if more than the longest is gone of it
pub reads_too_long : (before after : Option (List ℕ)) (fed : List ℕ) → Consumes before after fed → LONGEST_SCRIPT < length fed → length fed ≤ LONGEST_SCRIPT + PIECE
    → Says before after (Err (of_script.Refused 0 ScriptLength))
reads_too_long before after fed consumed long few = grind (arith, length-append, lt-ltb)

-- the refusal of a script that made an error
pub refusal_from : (error : ParseError) (line : ℕ) (code : Code) → script_error_by error ≡ errors.Refused line code → error ≡ of_script.Refused line code
refusal_from error line code is = grind arith
