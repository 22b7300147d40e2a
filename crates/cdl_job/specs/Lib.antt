pub mod Job
pub mod Outcome
pub mod Told
