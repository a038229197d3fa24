pub mod Degrees
pub mod NaturalSums
pub mod RowSums
pub mod ReversedDots
pub mod Coefficients
pub mod Refusals
pub mod Written
