pub mod Columns
pub mod Ends
pub mod Rising
pub mod Prints
pub mod inner
