pub mod Texts
pub mod Answer
pub mod Answered
pub mod Asking
pub mod Meaning
