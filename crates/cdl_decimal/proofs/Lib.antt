pub mod NearLaws
pub mod SplitLaws
pub mod ScaleLaws
pub mod DigitLaws
pub mod ParseLaws
pub mod TextLaws
