pub mod Closing
pub mod Cut
pub mod Derivations
pub mod Renumbered
pub mod Standing
