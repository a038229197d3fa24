pub mod Sources
pub mod Reading
pub mod Tapes
pub mod Derivation
pub mod Laws
pub mod Shakes
