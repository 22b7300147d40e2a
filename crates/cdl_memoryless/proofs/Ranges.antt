-- What is in range.
use Rattle.std.proofs.Common.{◌≤◌, ◌≡◌, Some, arith}
use Rattle.std.specs.Prelude.{ℤ, unsigned_abs}
use Rattle.std.proofs.lemmas.Bool.Decides.{nat_tests}
use Rattle.cdl_decimal.specs.Near.{in_integer_range}

pub integer_small : (w z : ℤ) → Some z ≡ in_integer_range w → unsigned_abs z ≤ 2147483647
integer_small w z e = grind (arith, nat_tests)
