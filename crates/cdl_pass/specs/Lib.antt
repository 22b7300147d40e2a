pub mod Windows
pub mod Net
pub mod Tick
pub mod Absorb
