pub mod Chords
pub mod Printed
pub mod Judging
pub mod Lines
pub mod Outcomes
pub mod Messages
