pub mod Decisions
pub mod Judging
pub mod Derivations
pub mod Texts
pub mod Rows
