pub mod Counts
pub mod Laws
pub mod Outcomes
pub mod OutcomeLaws
pub mod Secrets
pub mod Places
pub mod LawProofs
