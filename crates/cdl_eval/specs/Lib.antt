pub mod Families
pub mod Places
pub mod Kept
pub mod Leads
