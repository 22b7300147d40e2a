pub mod SampleIntervals
pub mod Sampling
pub mod WindowLaws
