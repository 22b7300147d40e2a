pub mod Numbered
pub mod Gathered
pub mod Known
pub mod Outwards
pub mod Kept
