pub mod Run
pub mod Algebra
pub mod Suffixes
pub mod Errors
pub mod Subspans
pub mod Faults
pub mod Whole
