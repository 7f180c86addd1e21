pub mod Variables
pub mod Terms
pub mod Clauses
pub mod Places
pub mod Substitutions
pub mod Texts
pub mod Rows
