pub mod Elements
pub mod Negation
pub mod Pair
pub mod Graph
