pub mod Comparing
pub mod Texts
pub mod Replays
pub mod OneFinding
pub mod Verifying
pub mod Behind
pub mod SectionLemmas
pub mod RowLemmas
