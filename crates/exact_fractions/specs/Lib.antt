pub mod Order
pub mod Divisors
pub mod Factors
