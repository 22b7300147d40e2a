pub mod Keeping
pub mod Leading
pub mod Linking
pub mod Nodes
pub mod Rows
pub mod Sharing
pub mod StepSizes
