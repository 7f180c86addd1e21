pub mod Above
pub mod Compare
pub mod LiteralTest
pub mod Literals
pub mod Parts
pub mod Standing
