pub mod Table
pub mod Steps
pub mod Starts
pub mod Bytewise
pub mod Rules
pub mod Decode
pub mod Library
