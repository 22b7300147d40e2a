pub mod Grown
pub mod Laws
pub mod Unique
pub mod FromRuns
pub mod Firsts
