pub mod Moments
pub mod Holds
pub mod Examples
