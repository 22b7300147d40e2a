pub mod AnyBlocks
pub mod Laid
pub mod Setting
pub mod Ready
