-- The meaning: what public contracts say.
pub mod Scopes
pub mod NumberTerms
pub mod Typing
pub mod Meaning
pub mod Answer
pub mod Rows
-- Of private contracts alone.
pub mod Stops
pub mod Bindings
pub mod Heads
pub mod Arguments
pub mod Contexts
