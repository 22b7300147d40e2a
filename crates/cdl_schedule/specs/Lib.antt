pub mod NetPlan
pub mod Passes
pub mod Plans
pub mod inner
