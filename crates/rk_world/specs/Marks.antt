-- Marks: pieces of a log that a rebuild made. They count for nothing until the coordinator takes that rebuild.
use Rattle.std.specs.Prelude.{ℕ, suc, Bool, ◌==◌, ◌&&◌, nat_lt, nat_le, if◌then◌else◌, List, [], ◌∷◌, drop}
use Rattle.std.specs.List.{list_any}
use Rattle.rk_entry.specs.declared.entry.Entry.{Entry}
use Rattle.rk_world.specs.declared.work.Mark.{Mark}

-- whether the entry at a place is of a marked piece
abbrev pub is_marked : List Mark → ℕ → Bool
is_marked marks place = list_any (λ mark. nat_le mark.first place && nat_lt place mark.past) marks

-- of entries, the first of which is at `place`, those that bear no mark
abbrev pub unmarked : List Mark → ℕ → List Entry → List Entry
unmarked marks place [] = []
unmarked marks place (entry ∷ entries) =
    if is_marked marks place then unmarked marks (suc place) entries else entry ∷ unmarked marks (suc place) entries

-- the entries of a log from a place on that bear no mark
abbrev pub unmarked_from : List Mark → ℕ → List Entry → List Entry
unmarked_from marks place entries = unmarked marks place (drop place entries)

-- whether a mark is of a tablet, made at this term or before
abbrev pub is_mark_of : ℕ → ℕ → Mark → Bool
is_mark_of tablet term mark = mark.tablet == tablet && nat_le mark.term term
