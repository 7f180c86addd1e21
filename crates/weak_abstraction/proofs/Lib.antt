pub mod Applications
pub mod Choices
pub mod Different
pub mod Found
pub mod Kept
pub mod KeyLemmas
pub mod Made
pub mod NoTarget
pub mod Numbers
pub mod PutBack
mod Rows
pub mod Unchanged
pub mod Used
