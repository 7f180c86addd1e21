pub mod Sums
pub mod Grammar
pub mod Places
pub mod Parsing
pub mod Spelled
pub mod Ranges
