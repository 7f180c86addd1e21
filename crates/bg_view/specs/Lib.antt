pub mod Background
pub mod Unknowns
pub mod Linear
pub mod View
pub mod Truth
pub mod Numbers
