pub mod Above
pub mod Areas
pub mod EarlierPotentials
pub mod PassedOver
pub mod PassingPolygons
pub mod ReadPotentials
pub mod RowLists
