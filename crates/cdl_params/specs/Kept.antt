-- What an elaborator is of.
pub use Rattle.cdl_eval.specs.Kept.{Model, classes}
