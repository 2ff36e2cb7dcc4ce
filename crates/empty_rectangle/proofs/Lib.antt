pub mod Sweeping
pub mod Searching
pub mod Listing
pub mod Frames
pub mod Passing
