pub mod Cuts
pub mod Matching
pub mod Walking
pub mod Places
pub mod Needs
