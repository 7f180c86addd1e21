pub mod Abstracted
pub mod Abstraction
pub mod Keys
pub mod Names
pub mod Targets
