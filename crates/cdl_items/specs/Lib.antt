pub mod Declarations
pub mod Roles
pub mod Arguments
pub mod Finals
