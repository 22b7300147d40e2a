pub mod Places
pub mod Extremes
pub mod SoundValues
pub mod SoundFunctions
pub mod SoundLiterals
