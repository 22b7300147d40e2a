pub mod Indices
pub mod Behind
pub mod Fitting
pub mod Numbering
pub mod Steps
pub mod Counts
pub mod Preorder
pub mod Owners
