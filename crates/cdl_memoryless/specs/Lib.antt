pub mod AtOnce
pub mod Gates
pub mod Scalars
pub mod Integers
pub mod Extremes
pub mod Reals
pub mod MemorylessKinds
