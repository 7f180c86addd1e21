pub mod Abstraction
pub mod Inference
pub mod Literals
pub mod Simplified
pub mod Symbols
