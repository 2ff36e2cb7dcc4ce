pub mod PairLimits
pub mod DistancePassing
