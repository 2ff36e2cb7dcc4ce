pub mod Squares
pub mod Extents
pub mod Trees
pub mod Covers
pub mod AnswerSquares
pub mod LeastPoints
