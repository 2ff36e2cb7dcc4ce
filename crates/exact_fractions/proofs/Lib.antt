pub mod Halving
pub mod Quotients
pub mod LowestForms
pub mod UniqueForms
pub mod LowestPlaces
pub mod ScaledForms
