pub mod Budgets
pub mod CompleteRows
pub mod Grounds
