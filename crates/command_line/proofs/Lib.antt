pub mod Numbers
pub mod Boxes
pub mod Parsed
pub mod FirstCauses
pub mod Judged
pub mod NoKind
