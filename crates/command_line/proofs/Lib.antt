pub mod ArgumentReads
pub mod Accepted
