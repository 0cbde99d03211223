-- What a drive writes at its end, in lines.
use Rattle.std.specs.Prelude.{ℕ, Bool, true, false, List, ◌++◌, codes, decimal, length, map, Option, Some, None}
use Rattle.std.specs.List.{count_by}
use Rattle.rk_types.specs.declared.call.Call.{Call}
use Rattle.rk_types.specs.declared.call.Op.{Op}
use Rattle.rk_types.specs.declared.call.Op.TheVariants.{Get, Put, CondPut, Delete}
use Rattle.rk_types.specs.declared.history.Receipt.{Receipt}
use Rattle.rk_workload.specs.declared.summary.Counts.{Counts}
use Rattle.rk_workload.specs.declared.summary.Summary.{Summary}

-- ---- how many receipts there are, by what their calls ask

abbrev pub is_put : Op → Bool
is_put (Put value) = true
is_put _ = false

abbrev pub is_get : Op → Bool
is_get Get = true
is_get _ = false

abbrev pub is_delete : Op → Bool
is_delete Delete = true
is_delete _ = false

abbrev pub is_cond_put : Op → Bool
is_cond_put (CondPut expected value) = true
is_cond_put _ = false

-- of operations
abbrev pub counts_of : List Op → Counts
counts_of ops = record {
  puts = count_by is_put ops;
  gets = count_by is_get ops;
  deletes = count_by is_delete ops;
  cond_puts = count_by is_cond_put ops;
}

-- of receipts
abbrev pub counted : List Receipt → Counts
counted receipts = counts_of (map (λ receipt. receipt.call.op) receipts)

-- ---- the lines

-- a word and a number, in a line
abbrev pub number_line : List ℕ → ℕ → List ℕ
number_line word number = word ++ decimal number ++ codes "\n"

-- how many receipts there are of each operation, in a line
abbrev pub counts_line : Counts → List ℕ
counts_line counts =
    codes "put " ++ decimal counts.puts ++ codes " get " ++ decimal counts.gets
    ++ codes " del " ++ decimal counts.deletes ++ codes " cput " ++ decimal counts.cond_puts ++ codes "\n"

-- the master that owns the tablet in all lanes, if it is one, in a line
abbrev pub owner_line : Option ℕ → List ℕ
owner_line None = codes "owner mixed\n"
owner_line (Some master) = number_line (codes "owner ") master

-- the lines of what a drive came to, before those of its audit
abbrev pub result_lines : Summary → List ℕ
result_lines summary =
    number_line (codes "calls ") summary.calls ++ number_line (codes "answered ") summary.answered
    ++ counts_line summary.counts ++ owner_line summary.owner
