pub mod PlaneVectors
pub mod AddedRows
