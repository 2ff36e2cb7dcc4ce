pub mod Chains
pub mod Directions
pub mod Ends
