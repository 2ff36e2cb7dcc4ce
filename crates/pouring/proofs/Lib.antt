pub mod Counts
pub mod Poured
