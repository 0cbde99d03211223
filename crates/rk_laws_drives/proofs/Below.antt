-- Words of the crates below that the crates above take from here, so that they need not depend on those.
pub use Rattle.rk_laws_lanes.proofs.Events.{good_new}
