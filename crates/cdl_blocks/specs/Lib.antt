pub mod Edges
pub mod Memory
pub mod Counter
pub mod Rules
