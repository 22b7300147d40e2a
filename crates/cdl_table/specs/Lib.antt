pub mod Rows
pub mod Cells
pub mod TableRow
pub mod IsTable
pub mod Broken
pub mod Values
pub mod Trace
pub mod inner
