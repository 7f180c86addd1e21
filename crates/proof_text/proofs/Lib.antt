pub mod RuleWords
pub mod RuleFronts
pub mod StepFronts
pub mod Parsing
pub mod NoDigit
pub mod RulePrinted
pub mod RuleTexts
pub mod Conditions
