use Rattle.std.proofs.Common.{arith, rules, refl, ◌≡◌, ◌≤◌, ◌^◌, ◌*ℤ◌, pos, unsigned_abs, FitsSigned, to_z, of_z}
use Rattle.std.specs.Int.{w128}
use Rattle.std.proofs.lemmas.Int.{fits_signed_from_abs, to_z-of_z}
use Rattle.cdl_decimal.proofs.ScaleLaws.{small_product}
use Rattle.cdl_decimal.proofs.scale.wide_scaled.Goals.{After-power_of_ten}
use Rattle.cdl_decimal.proofs.scale.wide_scaled.Goals as goal

product : (c : After-power_of_ten) → to_z w128 (of_z w128 c.args.n) *ℤ to_z w128 (of_z w128 c.power_of_ten.result) ≡ c.args.n *ℤ pos (10 ^ c.args.k)
product c =
    let fits : FitsSigned w128 c.power_of_ten.result = search rules in
    rw (to_z-of_z w128 c.args.n c.ranges.n, to_z-of_z w128 c.power_of_ten.result fits, c.power_of_ten.ensures.value) refl

fits : (c : After-power_of_ten) → FitsSigned w128 (c.args.n *ℤ pos (10 ^ c.args.k))
fits c =
    let small : unsigned_abs (c.args.n *ℤ pos (10 ^ c.args.k)) ≤ 100000000000000000000000000000000 = small_product c.args.n c.args.k c.requires.small c.requires.few in
    fits_signed_from_abs w128 (c.args.n *ℤ pos (10 ^ c.args.k)) (omega arith)

pub overflow_mul-result : goal.overflow_mul-result
overflow_mul-result c = rw (product c) (fits c)

pub returns : goal.returns
returns c = rw (product c) (to_z-of_z w128 (c.args.n *ℤ pos (10 ^ c.args.k)) (fits c))
