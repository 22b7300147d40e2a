pub mod Expressions
pub mod Arguments
pub mod Names
