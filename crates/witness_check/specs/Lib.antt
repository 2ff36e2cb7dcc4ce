pub mod Kinds
pub mod Radii
