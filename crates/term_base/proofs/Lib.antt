pub mod Ascending
pub mod BackgroundLemmas
pub mod CoverLemmas
pub mod DerivedOrder
pub mod LawLemmas
pub mod PurityLemmas
pub mod SimpleLemmas
pub mod WeightLemmas
