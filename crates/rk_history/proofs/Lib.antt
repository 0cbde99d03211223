pub mod Headlines
pub mod Firsts
pub mod Merges
pub mod Taken
