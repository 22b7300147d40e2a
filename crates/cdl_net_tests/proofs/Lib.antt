pub mod Indexing
pub mod Parameters
