pub mod Notes
pub mod Decls
mod Connects
pub mod Statements
pub mod Formed
pub mod Counted
