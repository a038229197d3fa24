pub mod Rounding
pub mod NumberSets
pub mod House
pub mod WorkedValues
pub mod LawProofs
