pub mod Each
pub mod Floats
pub mod Back
pub mod Texts
pub mod Parameters
pub mod Parents
pub mod Writable
