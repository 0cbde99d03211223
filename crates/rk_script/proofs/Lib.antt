pub mod Digits
pub mod WordLemmas
pub mod Cuts
pub mod ReadingLemmas
pub mod FeedingLemmas
pub mod LawfulLemmas
pub mod Widths
pub mod Examples
