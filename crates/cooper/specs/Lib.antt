pub mod Sharing
pub mod Walks
pub mod Visits
pub mod Deciding
