pub mod Smallest
pub mod RoundingSearch
pub mod RoundingSteps
pub mod Ties
