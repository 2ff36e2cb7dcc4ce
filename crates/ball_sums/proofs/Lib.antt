pub mod SumSizes
pub mod Weights
pub mod SupportSums
pub mod MachineMeans
pub mod Means
pub mod BallPassing
