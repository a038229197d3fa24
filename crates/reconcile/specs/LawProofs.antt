-- Proofs, and words that only proofs use: that each reconciler is sound. They stand here since an impl,
-- which gives the proof of its trait's law, may cite nothing of its own crate's proofs/. The check verifies
-- them; a reader need not believe them.
pub mod Counts
pub mod Near
pub mod Ding
pub mod Okcn
