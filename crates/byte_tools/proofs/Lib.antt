pub mod FirstIndices
pub mod SearchedIndices
pub mod Clamping
pub mod NumeralLaws
