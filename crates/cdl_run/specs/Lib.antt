pub mod Words
pub mod Runs
pub mod Running
pub mod inner
