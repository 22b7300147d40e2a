-- What each kind of block means, a file for each family: a function of the history of its inputs.
pub mod Gates
pub mod Edges
pub mod Integers
pub mod Reals
pub mod Conversions
pub mod Timers
pub mod Discrete
