pub mod Names
pub mod Parts
pub mod Networks
pub mod Apart
pub mod NetOf
