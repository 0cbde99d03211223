-- The words that name a drive: `drive CLIENTS CALLS KEYS`, then `crash M AFTER`, then `history`, each of the last two or not.
use Rattle.std.specs.Prelude.{◌*◌, ℕ, Bool, true, false, nat_le, List, [], ◌∷◌, Option, Some, None, Result, Ok, Err, bytes_eq, codes, if◌then◌else◌}
use Rattle.rk_script.specs.Commands.{after}
use Rattle.rk_script.specs.Numbers.{number_in}
use Rattle.rk_script.specs.declared.code.Code.{Code}
use Rattle.rk_script.specs.declared.code.Code.TheVariants.{BadNumber, WordCount}
use Rattle.rk_drive.specs.declared.plan.Crash.{Crash}
use Rattle.rk_drive.specs.declared.plan.Plan.{Plan}
use Rattle.rk_drive.specs.declared.start.TheConstants.{MASTERS}
use Rattle.rk_drive.specs.declared.words.Sizes.{Sizes}
use Rattle.rk_drive.specs.declared.words.TheConstants.{MOST_CALLS, MOST_CLIENTS, MOST_KEYS}

-- how many clients there are, how many calls each of them makes, and of how many keys: at most so many calls in all
abbrev pub sizes_by : ℕ → ℕ → ℕ → Result Sizes Code
sizes_by clients calls keys =
    if nat_le (clients * calls) MOST_CALLS then Ok (record { clients = clients; calls = calls; keys = keys }) else Err BadNumber

abbrev pub sizes_in : List ℕ → List ℕ → List ℕ → Result Sizes Code
sizes_in clients calls keys =
    after (number_in 1 MOST_CLIENTS clients)
    (λ clients. after (number_in 1 MOST_CALLS calls) (λ calls. after (number_in 1 MOST_KEYS keys) (sizes_by clients calls)))

-- which master crashes, and after how many of the calls
abbrev pub crash_in : Sizes → List ℕ → List ℕ → Result Crash Code
crash_in sizes master answered =
    after (number_in 1 MASTERS master)
    (λ master. after (number_in 1 (sizes.clients * sizes.calls) answered) (λ answered. Ok (record { master = master; after = answered })))

abbrev pub planned : Sizes → Option Crash → Bool → Plan
planned sizes crash history =
    record { clients = sizes.clients; calls = sizes.calls; keys = sizes.keys; crash = crash; history = history }

-- the last word, if there is one
abbrev pub end_in : Sizes → Option Crash → List (List ℕ) → Result Plan Code
end_in sizes crash [] = Ok (planned sizes crash false)
end_in sizes crash (word ∷ []) = if bytes_eq word (codes "history") then Ok (planned sizes crash true) else Err WordCount
end_in sizes crash words = Err WordCount

-- the words after the numbers
abbrev pub rest_in : Sizes → List (List ℕ) → Result Plan Code
rest_in sizes (word ∷ master ∷ answered ∷ rest) =
    if bytes_eq word (codes "crash") then after (crash_in sizes master answered) (λ crash. end_in sizes (Some crash) rest) else Err WordCount
rest_in sizes words = end_in sizes None words

-- the plan that words name
abbrev pub plan_in : List (List ℕ) → Result Plan Code
plan_in (word ∷ clients ∷ calls ∷ keys ∷ rest) =
    if bytes_eq word (codes "drive") then after (sizes_in clients calls keys) (λ sizes. rest_in sizes rest) else Err WordCount
plan_in words = Err WordCount
