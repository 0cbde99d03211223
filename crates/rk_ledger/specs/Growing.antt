-- Journals that grow.
use Rattle.std.specs.Prelude.{◌≡◌, ◌++◌, List}
use Rattle.rk_types.specs.declared.history.Placed.{Placed}
use Rattle.rk_world.specs.Ledger.{Ledger}

-- the ledger with another journal
abbrev pub with_journal : Ledger → List Placed → Ledger
with_journal ledger journal = record ledger { journal = journal }

-- a journal is another one, with records behind it
pub record IsGrown (before after : List Placed) : Type 0 where
  pub later : List Placed
  pub is : after ≡ before ++ later
