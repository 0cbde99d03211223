-- Words of the crates below that the crates above take from here, so that these need not build on those.
pub use Rattle.rk_laws_lanes.specs.Below.{waiting}
pub use Rattle.rk_laws_lanes.specs.GoodLane.{IsGoodLane}
pub use Rattle.rk_laws_lanes.specs.gathered.Answers.{AreOfDistinctCalls, HasJustTheAnswers}
pub use Rattle.rk_laws_lanes.specs.gathered.Gathered.{IsEnded, IsOrderly}
pub use Rattle.rk_laws_lanes.specs.gathered.OpenCalls.{HasCountedCalls}
pub use Rattle.rk_laws_lanes.specs.gathered.Sessions.{calls_in, receipts_in}
pub use Rattle.rk_laws_lanes.specs.gathered.StoredHistory.{HistoryIsStored}
