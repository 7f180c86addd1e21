pub mod Command
pub mod Matches
