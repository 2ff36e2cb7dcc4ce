pub mod FirstTests
pub mod PolygonLimits
pub mod PotentialRows
