pub mod Walking
pub mod Steps
pub mod Sorting
pub mod Lists
pub mod Glue
pub mod Founds
pub mod Working
pub mod Ordering
