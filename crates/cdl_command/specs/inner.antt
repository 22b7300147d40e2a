-- What private contracts cite.
pub mod Stops
pub mod Reads
pub mod Plans
pub mod Documents
