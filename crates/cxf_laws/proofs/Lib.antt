pub mod Splitting
pub mod Arrays
pub mod Paths
pub mod Ids
pub mod Order
pub mod Plain
