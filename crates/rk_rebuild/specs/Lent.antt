-- Entries that are lent, as the entries that they are.
use Rattle.std.specs.Prelude.{List, map}
use denote.Ref.{Bor}
use Rattle.rk_entry.specs.declared.entry.Entry.{Entry}

-- the entries that references lead to
abbrev pub lent : List (Bor Entry) → List Entry
lent entries = map (λ entry. entry.now) entries
