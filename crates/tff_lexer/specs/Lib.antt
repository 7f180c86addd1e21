pub mod Forms
pub mod Blanks
pub mod Prefixes
pub mod Scans
pub mod Values
