pub mod Dividing
pub mod FormOf
pub mod Forms
pub mod Linear
pub mod Literals
pub mod Normal
pub mod Summands
