pub mod Rings
pub mod Multipliers
pub mod Sums
pub mod Methods
pub mod LawProofs
