pub mod Fields
pub mod Lengths
pub mod Packing
pub mod PackingLaws
pub mod Refusals
pub mod Widths
