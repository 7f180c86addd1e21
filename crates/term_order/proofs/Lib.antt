pub mod AboveLemmas
pub mod CompareLemmas
pub mod HeadLemmas
pub mod LiteralLemmas
pub mod MultisetLemmas
pub mod PartLemmas
mod Rows
pub mod StandingLemmas
pub mod VariableLemmas
