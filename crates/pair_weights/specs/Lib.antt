pub mod CommonFactors
pub mod Extremes
pub mod WeightedLists
