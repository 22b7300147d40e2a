pub mod Numbered
pub mod Ordered
