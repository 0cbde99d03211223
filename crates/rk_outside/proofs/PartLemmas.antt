-- Lemmas on first parts of bytes, for texts that are written in several calls.
use Rattle.std.proofs.Common.{ℕ, List, [], ◌++◌, Option, sym, ap, ◌∙◌, append_assoc, append-nil}
use Rattle.std.specs.Io.KnownBytes.{Appends}
use Rattle.std.proofs.KnownBytes.{Appends-trans}
use Rattle.rk_outside.specs.Parts.{AppendsPart}

-- a first part of some bytes is one of these bytes and what comes behind them
pub AppendsPart-more : (old new : Option (List ℕ)) (bytes more : List ℕ) → AppendsPart old new bytes → AppendsPart old new (bytes ++ more)
AppendsPart-more old new bytes more part = record {
  front = part.front;
  back = part.back ++ more;
  parts = ap (λ l. l ++ more) part.parts ∙ append_assoc part.front part.back more;
  written = part.written;
}

-- what was written before, and then a first part of some bytes, is a first part of both
pub AppendsPart-after : (old mid new : Option (List ℕ)) (before bytes : List ℕ) → Appends old mid before → AppendsPart mid new bytes → AppendsPart old new (before ++ bytes)
AppendsPart-after old mid new before bytes first part = record {
  front = before ++ part.front;
  back = part.back;
  parts = ap (λ l. before ++ l) part.parts ∙ sym (append_assoc before part.front part.back);
  written = Appends-trans old mid new before part.front first part.written;
}
