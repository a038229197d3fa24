-- Proofs, and words that only proofs use: that the number sets are admissible and that every house profile
-- is lawful. They stand here since an impl, which gives the proof of its trait's law, may cite nothing of
-- its own crate's proofs/. The check verifies them; a reader need not believe them.
pub mod AdmissibleSets
pub mod Classes
pub mod Floors
pub mod Lawfulness
pub mod Roundings
