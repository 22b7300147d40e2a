pub mod RowFacts
pub mod TableFacts
pub mod FlatFacts
pub mod TableLaw
pub mod BrokenLaw
pub mod ValueLaw
pub mod TraceFacts
pub mod PlainTexts
