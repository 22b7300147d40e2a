pub mod Sets
pub mod ExprLaws
mod Groups
mod Prims
pub mod Operators
pub mod Texts
pub mod Args
pub mod Meant
pub mod Formed
pub mod Counted
