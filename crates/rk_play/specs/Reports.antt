-- What is reported to the caller of a run: its status, and the code of its refusal.
use Rattle.std.specs.Prelude.{ℕ, List, ◌++◌, Option, None, Some, ⊤}
use Rattle.std.specs.Io.KnownBytes.{Appends}
use Rattle.rk_types.specs.declared.status.Status.{Status}
use Rattle.rk_types.specs.declared.status.Status.TheVariants.{Refused}
use Rattle.rk_lines.specs.Lines.{refused_line}
use Rattle.rk_play.specs.declared.report.Report.{Report}

-- what was written ends with a refusal that gives this code
pub record WritesCode (code : ℕ) (old new : Option (List ℕ)) : Type 0 where
  pub before : List ℕ
  pub line : ℕ
  pub written : Appends old new (before ++ refused_line line code)

-- with Refused comes the code that was written, and with any other status none
abbrev pub TellsCode : Status → Option ℕ → Option (List ℕ) → Option (List ℕ) → Type 0
TellsCode Refused (Some code) old new = WritesCode code old new
TellsCode Refused None old new = ⊥
TellsCode status (Some code) old new = ⊥
TellsCode status None old new = ⊤

-- a status without a code
abbrev pub report_of : Status → Report
report_of status = record { status = status; code = None }

-- what is reported of a refusal with this code, if the run came to this status: it was not refused if the refusal could not be written
abbrev pub code_by : Status → ℕ → Option ℕ
code_by Refused code = Some code
code_by status code = None

abbrev pub refused_report : Status → ℕ → Report
refused_report status code = record { status = status; code = code_by status code }
