-- What the index notes of clients and seqs, after a change.
use Rattle.std.proofs.Common.{arith, ◌≡◌, ℕ, Bool, true, false, cond, eqb, eqb-true, ◌&&◌, Some, refl}
use Rattle.std.proofs.lemmas.Bool.{false≢true}
use Rattle.std.specs.HashMap.{Updates}
use Rattle.rk_ledger.specs.declared.call_index.CallIndex.{CallIndex}
use Rattle.rk_ledger.specs.declared.call_index.Noted.{Noted}
use Rattle.rk_ledger.specs.declared.call_index.OfCall.{OfCall}
use Rattle.rk_ledger.specs.Noted.{IsNoted, NotesTheSame, found_in, is_last_name, is_of_name, is_same_name}

-- what is found once something was noted of a client and a seq
abbrev pub FoundAfter : CallIndex → CallIndex → ℕ → ℕ → Noted → Type 0
FoundAfter old new client seq noted =
    (other asked : ℕ) → found_in new other asked ≡ cond (eqb client other && eqb seq asked) (Some noted) (found_in old other asked)

-- what is noted then
pub noted_after : (old new : CallIndex) (client seq : ℕ) (noted : Noted) → FoundAfter old new client seq noted → IsNoted old new client seq noted
noted_after old new client seq noted found_after = grind (arith, eqb)

-- if the index finds what it found
pub noted_same : (old new : CallIndex) → ((client seq : ℕ) → found_in new client seq ≡ found_in old client seq) → NotesTheSame old new
noted_same old new found = grind arith

-- two tests that hold together
and_both : (a b : Bool) → (a && b) ≡ true → (a ≡ true) × (b ≡ true)
and_both true b both = (refl, both)
and_both false b both = absurd (false≢true both)

-- of two names that are equal, both were noted last or neither was
same_name : (last : OfCall) (client seq other asked : ℕ) → (eqb client other && eqb seq asked) ≡ true
    → is_of_name last other asked ≡ is_of_name last client seq
same_name last client seq other asked same = grind (arith, and_both, eqb, eqb-true)

-- once another call's note in the map is changed
pub stored_changed : (old new : CallIndex) (client seq : ℕ) (noted : Noted) → is_last_name old.last client seq ≡ false → new.last ≡ old.last
    → Updates is_same_name old.notes new.notes (client, seq) (Some noted) → FoundAfter old new client seq noted
stored_changed old new client seq noted apart last updates other asked = grind (arith, eqb, same_name)
