pub mod Fronts
pub mod Traces
pub mod Ticking
pub mod Sinks
pub mod Listing
pub mod Renaming
