pub mod Expressions
pub mod Sizes
pub mod Values
pub mod Links
pub mod Units
pub mod Texts
