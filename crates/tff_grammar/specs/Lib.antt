-- The meaning: what public contracts say.
pub mod Words
pub mod Pieces
pub mod Grammar
pub mod Text
pub mod Meaning
pub mod FirstFault
pub mod Answer
pub mod Order
-- Of private contracts alone.
pub mod Machine
pub mod Notes
pub mod Left
-- For proofs above that go through syntax trees.
pub mod TreeFolds
