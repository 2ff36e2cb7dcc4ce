pub mod CommonFactors
pub mod LowestSums
pub mod OneMore
pub mod WeightedLists
