pub mod Accepted
pub mod OutcomeLaws
pub mod Secrets
pub mod Ranges
