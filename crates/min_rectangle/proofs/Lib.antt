pub mod Cones
pub mod Areas
