pub mod Nets
pub mod Paths
pub mod WellFormed
pub mod Faults
pub mod inner
