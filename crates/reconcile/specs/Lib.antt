pub mod Reconcilers
pub mod Ding
pub mod Okcn
pub mod EveryModulus
pub mod LawProofs
