pub mod Signs
pub mod Bounds
pub mod Reading
pub mod Reaches
pub mod SpanBounds
pub mod FanLists
