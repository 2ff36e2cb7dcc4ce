pub mod CentresPassing
pub mod CornerLeaves
pub mod BoxesBeside
pub mod Lowest
pub mod Walk
