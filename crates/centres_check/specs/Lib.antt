pub mod CentresLimits
pub mod Heights
pub mod CornerBoxes
