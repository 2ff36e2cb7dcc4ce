pub mod Orders
pub mod Ends
pub mod Surveys
pub mod Windows
pub mod Heights
pub mod Search
pub mod Faults
pub mod Messages
