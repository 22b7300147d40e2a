pub mod Kept
pub mod Framed
