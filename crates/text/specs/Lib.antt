pub mod Cells
pub mod Search
pub mod Need
pub mod Laws
pub mod Answers
pub mod Singles
