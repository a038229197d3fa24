pub mod BitCounts
pub mod Reading
pub mod Groups
pub mod Keeping
pub mod Laws
pub mod Squeezing
pub mod Ends
