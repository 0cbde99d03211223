-- The laws of entries and their spellings.
use Rattle.std.specs.Prelude.{◌≡◌, ◌++◌, List, ℕ, length, Ok}
use Rattle.std.specs.List.{AllByRecursion}
use Rattle.rk_types.specs.declared.held.Held.{Held}
use Rattle.rk_types.specs.Held.{spelled_of}
use Rattle.rk_entry.specs.declared.entry.Entry.{Entry}
use Rattle.rk_entry.specs.Spelling.{spelled}
use Rattle.rk_entry.specs.Lawful.{IsLawfulEntry}
use Rattle.rk_entry.specs.Reading.{read_entry}
use Rattle.rk_entry.specs.Entries.{spelled_all, entries_of}

-- Each entry has one spelling, and no spelling begins another: bytes that begin with two spellings begin with one.
pub one_spelling : (a b : Entry) (x y : List ℕ) → IsLawfulEntry a → IsLawfulEntry b → spelled a ++ x ≡ spelled b ++ y → (a ≡ b) × (x ≡ y)
one_spelling = Rattle.rk_entry.proofs.EntryLaws.one_spelled

-- What is spelled is read again, whatever follows: one entry, and entries one after the other.
pub round_trip : (entry : Entry) (rest : List ℕ) → IsLawfulEntry entry → read_entry (spelled entry ++ rest) ≡ Ok (entry, rest)
round_trip = Rattle.rk_entry.proofs.EntryLaws.entry_again

pub round_trip_of_all : (entries : List Entry) (rest : List ℕ) → AllByRecursion IsLawfulEntry entries
    → entries_of (spelled_all entries ++ rest) ≡ entries ++ entries_of rest
round_trip_of_all = Rattle.rk_entry.proofs.StandLaws.all_again

-- The length that an item gives is that of its entry.
pub item_length : (held : Held) → spelled_of held ≡ length (spelled (Entry.Held held))
item_length = Rattle.rk_entry.proofs.Sizes.held_spelled
