pub mod Crossing
pub mod RowLaws
pub mod Rounds
pub mod HullRows
pub mod Named
pub mod Diameters
pub mod Maxima
