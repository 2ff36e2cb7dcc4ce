pub mod Sums
pub mod Means
pub mod DeterminedBalls
