pub mod Outcomes
pub mod Told
mod Worked
