use Rattle.std.proofs.Common.{arith, rules, ◌≤◌, ◌^◌, ◌<◌}
use Rattle.std.proofs.lemmas.Int.{ints}
use Rattle.cdl_decimal.proofs.ScaleLaws.{power_small, power_positive}
use Rattle.cdl_decimal.proofs.scale.power_of_ten.Goals as goal

pub pow-requires : goal.pow-requires
pow-requires c =
    let p : 10 ^ c.args.k ≤ 1000000000000000000000000000000 = power_small c.args.k c.requires in
    search rules

pub returns-clause-positive : goal.returns-clause-positive
returns-clause-positive c =
    let p : 10 ^ c.args.k ≤ 1000000000000000000000000000000 = power_small c.args.k c.requires in
    let q : 0 < 10 ^ c.args.k = power_positive c.args.k in
    omega (arith, ints)

pub returns-clause-small : goal.returns-clause-small
returns-clause-small c =
    let p : 10 ^ c.args.k ≤ 1000000000000000000000000000000 = power_small c.args.k c.requires in
    omega (arith, ints)
