pub mod Copies
pub mod Ranges
pub mod ExtremeLaws
pub mod SumLaws
pub mod Factors
pub mod Ready
