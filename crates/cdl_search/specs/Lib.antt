pub mod Walks
pub mod Search
pub mod Graph
pub mod Order
