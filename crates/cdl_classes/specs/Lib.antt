pub mod Found
pub mod Table
pub mod Places
pub mod Rules
pub mod Verdict
pub mod inner
