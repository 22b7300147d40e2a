-- What private contracts cite.
pub mod Faults
