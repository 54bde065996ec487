pub mod Octets
pub mod Scans
pub mod Rfc
pub mod Answers
