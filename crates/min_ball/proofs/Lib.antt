pub mod SupportSums
pub mod Listing
pub mod SeenFromFirst
pub mod DeterminedBalls
pub mod Passing
