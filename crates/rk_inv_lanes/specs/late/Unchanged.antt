-- A lane in which nothing has changed but what is on the wire.
use Rattle.std.specs.Prelude.{◌≡◌, ℕ}
use Rattle.rk_world.specs.World.{World, master_at}

-- each master is as it was, with its log, its records and its tablets: their roles, terms, ranges, counters and ends; so are the rows
-- and all else that the coordinator knows, the journal and all else of the ledger, what the backups store, and who has crashed
pub record IsUnchanged (before after : World) : Type 0 where
  pub masters : (master : ℕ) → master_at after master ≡ master_at before master
  pub coordinator : after.coordinator ≡ before.coordinator
  pub ledger : after.ledger ≡ before.ledger
  pub backups : after.backups ≡ before.backups
  pub crashed : after.crashed ≡ before.crashed

-- and nothing was sent
pub record IsUntouched (before after : World) : Type 0 where
  pub unchanged : IsUnchanged before after
  pub silent : after.wire ≡ before.wire
