pub mod Elements
pub mod ResidueLaws
pub mod Residues
