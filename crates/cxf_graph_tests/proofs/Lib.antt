pub mod Fitting
pub mod Every
