pub mod Building
pub mod Causes
pub mod Loops
pub mod Listing
pub mod Passing
