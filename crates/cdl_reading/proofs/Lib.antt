mod Next
pub mod Turns
pub mod Steps
pub mod Alike
pub mod Laws
pub mod Repeats
pub mod Spelled
pub mod Strings
