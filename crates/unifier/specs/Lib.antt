pub mod Disagreements
pub mod Found
pub mod Naming
pub mod Pairing
pub mod Search
pub mod Sorted
pub mod Unifiers
pub mod Variables
