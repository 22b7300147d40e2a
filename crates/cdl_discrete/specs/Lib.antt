pub mod Samples
pub mod Windows
