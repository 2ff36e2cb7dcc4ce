pub mod LaterVectors
pub mod Rows
pub mod Tables
pub mod Choices
pub mod Faults
pub mod Messages
