pub mod HalfOfRow
pub mod Splitting
pub mod HalvedMessages
pub mod RowSplit
pub mod Split
