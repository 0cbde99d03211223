-- Words of the crates below that the crates above take from here, so that these need not build on those.
pub use Rattle.rk_inv_lanes.specs.Below.{IsSteady}
pub use Rattle.rk_inv_lanes.specs.room.Kept.{IsKept}
pub use Rattle.rk_inv_lanes.specs.stands.Backups.{AllBackupsTell}
