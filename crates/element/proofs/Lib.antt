pub mod Integers
pub mod FiniteSums
pub mod Shapes
pub mod Products
pub mod Congruences
pub mod Sizes
pub mod Elements
