-- The text of an answer: what a text reads as, and the one spelling of an answer.
pub mod Lines
pub mod Numerals
pub mod Fields
pub mod LineFormats
pub mod Formats
pub mod Kinds
pub mod Heads
pub mod Reading
pub mod Written
pub mod Spelling
