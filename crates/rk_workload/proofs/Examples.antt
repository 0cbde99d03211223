-- Workloads and summaries at worked examples.
use Rattle.std.proofs.Common.{◌≡◌, ℕ, List, [], ◌∷◌, map, refl}
use Rattle.std.specs.Prelude.{codes, Some, None}
use Rattle.std.specs.Fmt.{digits}
use Rattle.rk_types.specs.declared.call.Call.{Call}
use Rattle.rk_types.specs.declared.call.Op.{Op}
use Rattle.rk_types.specs.declared.call.Op.TheVariants.{Get, Put, CondPut, Delete}
use Rattle.rk_workload.specs.Summary.{counts_line, counts_of, owner_line, result_lines}
use Rattle.rk_workload.specs.Workload.{workload}

-- what the calls of a workload ask
abbrev ops_of : ℕ → ℕ → ℕ → List Op
ops_of clients calls keys = map (λ (call : Call). call.op) (workload clients calls keys)

-- one turn of eight calls
pub workload-turn : ops_of 1 8 1
    ≡ Put (codes "v1_1") ∷ Get ∷ CondPut 0 (codes "v1_3") ∷ Put (codes "v1_4") ∷ Get ∷ Delete ∷ Put (codes "v1_7") ∷ Get ∷ []
unfolding digits
workload-turn = refl

-- the calls of the second client come behind those of the first
pub workload-keys : map (λ (call : Call). call.key) (workload 2 3 10)
    ≡ codes "k0" ∷ codes "k7" ∷ codes "k4" ∷ codes "k3" ∷ codes "k0" ∷ codes "k7" ∷ []
unfolding digits
workload-keys = refl

-- results
pub result_lines-turn : result_lines (record { calls = 8; answered = 8; counts = counts_of (ops_of 1 8 1); owner = Some 2 })
    ≡ codes "calls 8\nanswered 8\nput 3 get 3 del 1 cput 1\nowner 2\n"
unfolding digits
result_lines-turn = refl

pub counts_line-hundreds : counts_line (counts_of (ops_of 4 100 10)) ≡ codes "put 152 get 148 del 48 cput 52\n"
unfolding digits
counts_line-hundreds = refl

pub owner_line-mixed : owner_line None ≡ codes "owner mixed\n"
owner_line-mixed = refl
