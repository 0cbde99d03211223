-- Words of the crates below that the crates above take from here, so that these need not build on those.
pub use Rattle.rk_runs.specs.history.Agreement.{waiting}
