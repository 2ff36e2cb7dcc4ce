pub mod Listing
pub mod SupportSums
pub mod DeterminedDistances
pub mod Passing
pub mod Settled
