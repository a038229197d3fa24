pub mod Permutation
pub mod Tables
pub mod Sponge
pub mod Laws
