pub mod Overwrites
