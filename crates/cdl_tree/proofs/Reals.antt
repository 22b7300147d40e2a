-- A Real's text is read as the definition says.
use Rattle.std.proofs.Common.{◌≡◌, ℤ, List, ℕ, Ok, subst}
use Rattle.cdl_decimal.specs.Split.{parse_of}
use Rattle.cdl_decimal.specs.Spells.{Parses}
use Rattle.cdl_decimal.proofs.ParseLaws.{parses_is, parses_one}
use Rattle.cdl_tree.specs.Literals.{IsReal}

pub real_read : (text : List ℕ) (q : ℤ) → IsReal text q → parse_of text ≡ Ok q
real_read text q r = parses_one text (Ok q) r

pub real_is : (text : List ℕ) (q : ℤ) → parse_of text ≡ Ok q → IsReal text q
real_is text q e = subst (Parses text) e (parses_is text)
