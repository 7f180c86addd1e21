pub mod AnswerLemmas
pub mod FoundLemmas
mod Rows
pub mod ScanLemmas
pub mod StepLemmas
pub mod SymbolLemmas
