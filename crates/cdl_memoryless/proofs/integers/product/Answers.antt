use Rattle.std.proofs.Common.{◌≡◌, ◌*ℤ◌, w64, FitsSigned, to_z, of_z, lit<}
use Rattle.std.proofs.lemmas.Int.{fits_signed_mul, to_z-of_z}
use Rattle.cdl_memoryless.proofs.integers.product.Goals as goal

pub returns : goal.returns
returns c =
    let left : to_z w64 (of_z w64 c.args.a) ≡ c.args.a = to_z-of_z w64 c.args.a c.ranges.a in
    let right : to_z w64 (of_z w64 c.args.b) ≡ c.args.b = to_z-of_z w64 c.args.b c.ranges.b in
    let fits : FitsSigned w64 (c.args.a *ℤ c.args.b) = fits_signed_mul w64 c.args.a c.args.b 2147483647 2147483647 c.requires.left c.requires.right (lit< tt) in
    rw (left, right) (to_z-of_z w64 (c.args.a *ℤ c.args.b) fits)
