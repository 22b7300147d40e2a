pub mod Integers
pub mod Ends
pub mod Picks
pub mod Sides
pub mod Verdicts
pub mod inner
