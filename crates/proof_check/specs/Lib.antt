pub mod Sections
pub mod Checks
pub mod Rows
