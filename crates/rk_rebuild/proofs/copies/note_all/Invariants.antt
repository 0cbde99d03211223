use Rattle.rk_rebuild.proofs.Words.{List, ◌++◌, take, Held, items_of, lent, HasVersions}
use Rattle.rk_rebuild.proofs.copies.note_all.Given as goal

-- the versions so far are noted
abbrev pub invariant-loop-entry : goal.invariant-loop-entry
invariant-loop-entry l = (items : List Held) → HasVersions l.fn.versions items → HasVersions l.versions (items ++ items_of (lent (take l.entry-index l.entries)))
