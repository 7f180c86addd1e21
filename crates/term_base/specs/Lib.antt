-- terms, clauses, substitutions, sorts, and what they mean
pub mod Trees
pub mod Lits
pub mod Classes
pub mod Proper
pub mod Sorting
pub mod Clauses
pub mod Purity
pub mod Substitution
pub mod Places
pub mod Known
pub mod VariableOrder
pub mod Weight
pub mod Nodes
pub mod Redundancy
pub mod Rows
-- tests that decide them, for contracts of calls that answer yes or no
pub mod Same
pub mod SameTerm
pub mod SameLiteral
pub mod LitTests
pub mod CoverTest
pub mod SimpleTest
pub mod SubstTest
-- what follows, for proofs here and above
pub mod SameLemmas
pub mod VariableOrderLemmas
pub mod TermFolds
pub mod TermInduction
pub mod TreeOf
pub mod TreeBack
pub mod TreeLemmas
pub mod TreeLists
pub mod LitLemmas
pub mod LitTestLemmas
pub mod SubstLemmas
pub mod SimpleSubst
pub mod KnownLemmas
