pub mod SumSizes
pub mod SumSteps
pub mod PairWeights
pub mod Products
pub mod Directions
pub mod Ratios
pub mod WeightedMeans
