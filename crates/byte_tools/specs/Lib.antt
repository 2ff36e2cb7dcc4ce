pub mod Clamps
pub mod LeadingDigits
