pub mod Values
pub mod History
pub mod Extremes
