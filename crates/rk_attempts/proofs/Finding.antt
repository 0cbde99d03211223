-- Messages of a kind, found by one walk along a wire.
use Rattle.std.proofs.Common.{◌≡◌, ℕ, Bool, cond, List, [], ◌∷◌, filter, Some, refl}
use Rattle.std.specs.Prelude.{All}
use Rattle.std.proofs.lemmas.List.Elements.{All-head, All-tail}
use Rattle.rk_types.specs.NumberMap.{NumberMap, get, numbers}
use Rattle.rk_message.specs.declared.message.Message.{Message}
use Rattle.rk_attempts.specs.Wires.{is_there_with, numbers_with}

-- the numbers of those of these messages of which this is so
abbrev pub chosen : (Message → Bool) → NumberMap Message → List ℕ
chosen test [] = []
chosen test (entry ∷ rest) = cond (test entry.1) (entry.0 ∷ chosen test rest) (chosen test rest)

-- each message of a wire is found under its number
abbrev pub AreFound : NumberMap Message → NumberMap Message → Type 0
AreFound messages rest = All (λ entry. get messages entry.0 ≡ Some entry.1) rest

module _ (test : Message → Bool) (messages : NumberMap Message) where
  abbrev is_number : ℕ → Bool
  is_number number = is_there_with test (get messages number)

  abbrev IsFound : ℕ × Message → Type 0
  IsFound entry = get messages entry.0 ≡ Some entry.1

  chosen_found : (rest : NumberMap Message) → AreFound messages rest → filter is_number (numbers rest) ≡ chosen test rest
  chosen_found [] found = refl
  chosen_found (entry ∷ rest) found =
      rw (All-head IsFound entry rest found, chosen_found rest (All-tail IsFound entry rest found)) refl

  -- those of a whole wire
  pub chosen_all : AreFound messages messages → numbers_with test messages ≡ chosen test messages
  chosen_all = chosen_found messages
