pub mod Reals
pub mod Integers
pub mod Strings
pub mod Meanings
mod Small
mod SmallExprs
mod SmallFiles
pub mod Shapes
mod Evaluated
