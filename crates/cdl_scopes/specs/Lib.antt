pub mod Classes
pub mod Lookup
pub mod Scopes
pub mod Entries
pub mod Table
pub mod inner
