pub mod Queries
pub mod StampLemmas
pub mod Stamps
