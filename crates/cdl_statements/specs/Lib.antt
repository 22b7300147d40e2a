pub mod Places
pub mod Directory
pub mod Events
pub mod Stations
pub mod Judges
pub mod Complete
pub mod inner
