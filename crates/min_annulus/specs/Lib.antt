pub mod DifferenceVectors
pub mod LinearForms
pub mod Pairs
pub mod Extremes
pub mod Triangles
pub mod Witnesses
pub mod Lines
pub mod Laws
