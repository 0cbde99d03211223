-- The history of a cluster, in lines.
use Rattle.std.specs.Prelude.{ℕ, List, ◌++◌, codes, decimal}
use Rattle.std.specs.List.{flat_map}
use Rattle.rk_types.specs.declared.call.Op.{Op}
use Rattle.rk_types.specs.declared.call.Op.TheVariants.{Get, Put, CondPut, Delete}
use Rattle.rk_model.specs.declared.line.Line.{Line}
use Rattle.rk_lines.specs.Lines.{call_name, outcome_text, value_text}

-- a record by its table and its key
abbrev pub name_text : ℕ → List ℕ → List ℕ
name_text table key = decimal table ++ codes " " ++ key

-- what is asked of a record, as a script says it
abbrev pub asked_text : Op → ℕ → List ℕ → List ℕ
asked_text Get table key = codes "get " ++ name_text table key
asked_text (Put value) table key = codes "put " ++ name_text table key ++ value_text value
asked_text (CondPut expected value) table key = codes "cput " ++ name_text table key ++ codes " " ++ decimal expected ++ value_text value
asked_text Delete table key = codes "del " ++ name_text table key

-- a record of the history: its stamp and its lane, the call, and what that gave
abbrev pub entry_line : Line → List ℕ
entry_line line =
    codes "entry " ++ decimal line.placed.stamp ++ codes " " ++ decimal line.lane
    ++ codes " " ++ call_name line.placed.call.client line.placed.call.seq
    ++ codes " " ++ asked_text line.placed.call.op line.placed.call.table line.placed.call.key
    ++ codes " gives " ++ outcome_text line.placed.outcome ++ codes "\n"

-- the lines of a history
abbrev pub history_lines : List Line → List ℕ
history_lines history = flat_map entry_line history
