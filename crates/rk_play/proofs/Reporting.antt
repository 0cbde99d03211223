-- The code that is reported of a run is the code that was written last.
use Rattle.rk_play.proofs.Words.{◌≡◌, ◌≢◌, ℕ, List, ◌++◌, sym, subst, ⊎_elim, arith, append_assoc, concat, take, Appends, Status, Refused, WriteFault, AppendsPart}
use Rattle.rk_play.proofs.Words.{Segments, ClusterState, Numbered, ConcludesBy, IsWritten, End, IsSent}
use Rattle.std.specs.Prelude.{Option, Some, None}
use Rattle.std.proofs.KnownBytes.{Appends-trans}
use Rattle.rk_lines.specs.Lines.{refused_line}
use Rattle.rk_play.specs.Ended.{EndsBy}
use Rattle.rk_play.specs.Reports.{TellsCode, WritesCode, code_by}
use Rattle.rk_play.specs.declared.end.End.TheVariants as ends

-- a text was written, and no refusal
pub told_apart : (text : List ℕ) (given status : Status) (old new : Option (List ℕ)) → IsWritten text given status old new → given ≢ Refused
    → TellsCode status None old new
told_apart text given status old new is apart = grind arith

-- a refusal was written behind what was held back
pub told_refused : (held : List ℕ) (line code : ℕ) (status : Status) (old new : Option (List ℕ)) → IsWritten (held ++ refused_line line code) Refused status old new
    → TellsCode status (code_by status code) old new
told_refused held line code status old new is =
    ⊎_elim
    (λ (whole : (status ≡ Refused) × Appends old new (held ++ refused_line line code)).
    subst (λ (it : Status). TellsCode it (code_by it code) old new) (sym whole.0) (record { before = held; line = line; written = whole.1 }))
    (λ (part : (status ≡ WriteFault) × AppendsPart old new (held ++ refused_line line code)).
    subst (λ (it : Status). TellsCode it (code_by it code) old new) (sym part.0) tt)
    is

-- text had been written before
written_behind : (code : ℕ) (old mid new : Option (List ℕ)) (text : List ℕ) → Appends old mid text → WritesCode code mid new → WritesCode code old new
written_behind code old mid new text first is = record {
  before = text ++ is.before;
  line = is.line;
  written =
      subst (λ (whole : List ℕ). Appends old new whole) (sym (append_assoc text is.before (refused_line is.line code)))
      (Appends-trans old mid new text (is.before ++ refused_line is.line code) first is.written);
}

told_later : (status : Status) (code : Option ℕ) (old mid new : Option (List ℕ)) (text : List ℕ) → Appends old mid text → TellsCode status code mid new
    → TellsCode status code old new
told_later Refused (Some code) old mid new text first is = written_behind code old mid new text first is
told_later status code old mid new text first is = grind arith

-- as the commands end, the run is concluded
pub told_behind : {R : Type 0} (segments : R → Option Segments) (faults : R → ℕ) (before now : ClusterState R) (all : List Numbered) (old mid new : Option (List ℕ))
    (held : List ℕ) (end : End) (status : Status) (code : Option ℕ) → EndsBy segments faults before now all old mid held end
    → ConcludesBy end held status mid new → TellsCode status code mid new → TellsCode status code old new
told_behind segments faults before now all old mid new held ends.Done status code ends concludes is =
    told_later status code old mid new (concat (take ends.sent.sent ends.pieces)) ends.sent.written is
told_behind segments faults before now all old mid new held (ends.Stopped line error) status code ends concludes is =
    told_later status code old mid new (concat (take ends.sent.sent ends.pieces)) ends.sent.written is
told_behind segments faults before now all old mid new held ends.WriteFault status code ends concludes is = grind arith
told_behind segments faults before now all old mid new held ends.NoMemory status code ends concludes is = grind arith
