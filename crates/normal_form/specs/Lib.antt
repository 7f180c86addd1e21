-- The meaning: what public contracts say.
pub mod Cnf
pub mod Numbering
pub mod Count
pub mod Clauses
pub mod Known
pub mod Answer
pub mod Rows
-- Of private contracts alone.
pub mod Measures
pub mod Lookup
