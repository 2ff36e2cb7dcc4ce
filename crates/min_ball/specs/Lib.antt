pub mod Balls
pub mod SmallestBalls
