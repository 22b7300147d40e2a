pub mod KindNames
pub mod Blocks
pub mod Items
pub mod TakenClasses
pub mod MarkLaws
pub mod TwiceClasses
pub mod Firstly
pub mod ItemClasses
pub mod Answers
mod FormedClasses
