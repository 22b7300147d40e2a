pub mod Counting
pub mod Networks
pub mod Checks
pub mod Windows
