-- Words of the crates below that the crates above take from here, so that these need not build on those.
pub use Rattle.rk_inv_events.specs.steps.Steps.{IsSteady}
