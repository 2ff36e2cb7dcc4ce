pub mod PlainFan
pub mod Areas
