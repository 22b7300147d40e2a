use Rattle.std.proofs.Common.{arith, ◌≤◌, ◌^◌, ◌<◌, lit<}
use Rattle.std.proofs.Math.Nat.{pow-le-pow_right}
use Rattle.cdl_decimal.proofs.ScaleLaws.{power_positive}
use Rattle.cdl_decimal.proofs.canonical.power_of_ten.Goals as goal

pub pow-requires : goal.pow-requires
pow-requires c =
    let p : 10 ^ c.args.places ≤ 10 ^ 6 = pow-le-pow_right {n = 10} (lit< tt) {i = c.args.places} {j = 6} (omega arith) in
    omega arith

pub returns-clause-positive : goal.returns-clause-positive
returns-clause-positive c = let p : 0 < 10 ^ c.args.places = power_positive c.args.places in omega arith
