pub mod Finding
pub mod Integers
pub mod Laws
pub mod Listing
pub mod Positions
