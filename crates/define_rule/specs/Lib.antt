pub mod Form
pub mod Found
pub mod NextTerm
pub mod Pins
pub mod Scan
pub mod Seen
