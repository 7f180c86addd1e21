pub mod Names
pub mod Faults
pub mod Declarations
pub mod Symbols
pub mod Tables
pub mod Rows
