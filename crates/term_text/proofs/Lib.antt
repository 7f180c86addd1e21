pub mod VariableFronts
pub mod TermKinds
pub mod TermLevels
pub mod TermFronts
pub mod TermReading
pub mod VariableWindows
pub mod Words
pub mod ClauseReading
pub mod PlaceReading
pub mod Ranks
pub mod SubstFronts
pub mod TermTexts
pub mod ClauseTexts
pub mod Printed
pub mod SubstReading
pub mod OtherTerms
pub mod OwnTexts
mod RowLemmas
mod ExactTexts
