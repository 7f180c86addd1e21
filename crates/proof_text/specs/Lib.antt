pub mod Rules
pub mod Derivations
pub mod Parsing
