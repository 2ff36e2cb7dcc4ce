pub mod BallPassing
pub mod SupportWeights
pub mod Supports
