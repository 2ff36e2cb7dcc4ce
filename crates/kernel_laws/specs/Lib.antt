pub mod Vectors
pub mod Limits
pub mod Signs
pub mod Solutions
pub mod Systems
pub mod Answers
