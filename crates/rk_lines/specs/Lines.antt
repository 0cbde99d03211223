-- What clients say, and what refuses a script, in lines. A line ends with a line feed, and its numbers are decimal.
use Rattle.std.specs.Prelude.{ℕ, List, [], ◌∷◌, ◌++◌, codes, decimal}
use Rattle.std.specs.List.{flat_map}
use Rattle.rk_types.specs.declared.call.Outcome.{Outcome}
use Rattle.rk_types.specs.declared.call.Outcome.TheVariants.{Found, Absent, Written, Deleted, Mismatch}
use Rattle.rk_types.specs.declared.node.Said.{Said}
use Rattle.rk_types.specs.declared.node.Said.TheVariants.{Reply, Moved, NotYet}

-- a value after a blank; an empty value is left out, and the blank with it
abbrev pub value_text : List ℕ → List ℕ
value_text [] = []
value_text (byte ∷ bytes) = codes " " ++ byte ∷ bytes

-- the words for an outcome
abbrev pub outcome_text : Outcome → List ℕ
outcome_text (Found version value) = codes "found " ++ decimal version ++ value_text value
outcome_text Absent = codes "absent"
outcome_text (Written version) = codes "written " ++ decimal version
outcome_text (Deleted version) = codes "deleted " ++ decimal version
outcome_text (Mismatch version) = codes "mismatch " ++ decimal version

-- a call by its client and its number there
abbrev pub call_name : ℕ → ℕ → List ℕ
call_name client seq = decimal client ++ codes " " ++ decimal seq

-- what a client was told about its call: the outcome, or why it is to ask again
abbrev pub said_text : Said → List ℕ
said_text (Reply client seq outcome) = codes "reply " ++ call_name client seq ++ codes " " ++ outcome_text outcome
said_text (Moved client seq tablet) = codes "again " ++ call_name client seq ++ codes " moved " ++ decimal tablet
said_text (NotYet client seq key) = codes "again " ++ call_name client seq ++ codes " notyet " ++ key

-- the same as a line
abbrev pub said_line : Said → List ℕ
said_line said = said_text said ++ codes "\n"

-- the lines of all that was said
abbrev pub said_lines : List Said → List ℕ
said_lines said = flat_map said_line said

-- a line of the script is refused with a code
abbrev pub refused_line : ℕ → ℕ → List ℕ
refused_line line code = codes "refused " ++ decimal line ++ codes " " ++ decimal code ++ codes "\n"
