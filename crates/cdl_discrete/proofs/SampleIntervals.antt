-- What holds of the sample interval of a time, passed on.
pub use Rattle.cdl_kind_laws.proofs.Past.{interval_known}
