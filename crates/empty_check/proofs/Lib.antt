pub mod Blocking
pub mod RectanglePassing
