-- How each client's last call ended, and what is known by it of another call.
use Rattle.std.specs.Prelude.{ℕ, Bool, true, nat_lt, ◌==◌, if◌then◌else◌, List, [], ◌∷◌, map, Option, Some, None, refl}
use Rattle.std.specs.Coded.{Coded, code_by, coded×, coded_ℕ}
use Rattle.rk_types.specs.NumberMap.{NumberMap, get, insert, number_map_code}
use Rattle.rk_types.specs.declared.call.Ended.{Ended}
use Rattle.rk_done.specs.declared.completion.Completion.{Completion}
use Rattle.rk_done.specs.declared.completion.Look.{Look}
use Rattle.rk_done.specs.declared.completion.Look.TheVariants.{New, Same, Old}
use Rattle.rk_done.specs.contracts.completion.Completion as completion_type

-- the last completion of each client, by the client's number
abbrev pub Completions : Type 0
Completions = NumberMap Completion

-- what contracts see of the type: the completions, and how many more clients find room
pub record Completed : Type 0 where
  pub completions : Completions
  pub room : ℕ

-- it is stored as the pair of its fields
abbrev pub completed_code : Coded Completed
completed_code =
    code_by (Completions × ℕ) (coded× (number_map_code completion_type.the_row.coded) coded_ℕ) (λ c. (c.completions, c.room))
    (λ p. record { completions = p.0; room = p.1 }) (λ _. refl)

-- what is known of the call with a seq, by the last completion of its client
abbrev pub look_of : Option Completion → ℕ → Look
look_of None seq = New
look_of (Some last) seq = if nat_lt last.seq seq then New else (if last.seq == seq then Same last.end else Old last.seq)

-- what is known of the call of a client with a seq
abbrev pub look : Completions → ℕ → ℕ → Look
look completions client seq = look_of (get completions client) seq

-- whether a call with a seq ended later than the last completion of its client
abbrev pub is_later : Option Completion → ℕ → Bool
is_later None seq = true
is_later (Some last) seq = nat_lt last.seq seq

-- the completions once a call ended: of its client the greater seq stays, and on a tie the end that is there
abbrev pub noted : Completions → Ended → Completions
noted completions ended =
    if is_later (get completions ended.client) ended.seq
    then insert completions ended.client (record { seq = ended.seq; end = ended.end })
    else completions

-- the completions after calls that ended one after the other, begun with these
abbrev pub completions_from : Completions → List Ended → Completions
completions_from completions [] = completions
completions_from completions (ended ∷ later) = completions_from (noted completions ended) later

-- the end of one client's last call
abbrev pub ended_of : ℕ × Completion → Ended
ended_of entry = record { client = entry.0; seq = entry.1.seq; end = entry.1.end }

-- the ends of the last calls, by rising client
abbrev pub ends_of : Completions → List Ended
ends_of completions = map ended_of completions
