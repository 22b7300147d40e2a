use Rattle.std.proofs.Common.{arith, rules, ◌<◌, unsigned_abs}
use Rattle.std.proofs.lemmas.Int.{ints}
use Rattle.cdl_decimal.proofs.NearLaws.{rounds_to}
use Rattle.cdl_decimal.proofs.real.rounded.Goals as goal

pub returns-clause-rounded : goal.returns-clause-rounded
returns-clause-rounded c =
    let positive : 0 < unsigned_abs c.args.d = omega (arith, ints) in
    rounds_to c.args.n (unsigned_abs c.args.d) c.narrow.result positive (search rules)
