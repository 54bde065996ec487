pub mod Joining
pub mod Agreeing
