pub mod Near
pub mod Counts
pub mod Spells
pub mod Split
pub mod Canon
