pub mod Members
pub mod Modifiers
pub mod Bindings
pub mod References
pub mod HandOut
