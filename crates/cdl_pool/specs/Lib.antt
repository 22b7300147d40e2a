pub mod Windows
pub mod Lent
