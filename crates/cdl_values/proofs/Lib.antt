pub mod Extremes
pub mod Laws
pub mod Writes
