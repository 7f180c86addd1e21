pub mod AnswerLemmas
pub mod DisagreementLemmas
pub mod GeneralLemmas
pub mod ImageLemmas
pub mod KindLemmas
pub mod KnownLemmas
pub mod MatchingLemmas
pub mod NameLemmas
pub mod NamingLemmas
pub mod NumberLemmas
pub mod PairLemmas
pub mod PlaceLemmas
pub mod RaisingLemmas
mod Rows
pub mod SearchLemmas
pub mod VariableLemmas
