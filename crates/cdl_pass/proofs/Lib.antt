pub mod Places
pub mod Ready
pub mod Passing
pub mod Absorbing
pub mod Remembering
pub mod Running
pub mod Lacking
