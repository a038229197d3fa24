pub mod Elements
pub mod Faults
pub mod Moduli
pub mod Places
pub mod Residues
pub mod Scratch
