pub mod Joining
pub mod Spelling
pub mod Values
pub mod Judged
pub mod SameLemmas
pub mod Deriving
pub mod Steps
pub mod RowLemmas
