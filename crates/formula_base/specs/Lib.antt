pub mod Binders
pub mod FormulaFolds
pub mod FormulaInduction
pub mod Rows
pub mod Typing
