pub mod Holding
pub mod Hexadecimal
