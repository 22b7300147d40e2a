use Rattle.std.proofs.Common.{arith, rules, ◌≡◌, ◌<◌, ◌-ℤ◌, unsigned_abs}
use Rattle.std.proofs.lemmas.Int.{ints}
use Rattle.cdl_decimal.specs.Near.{near, in_range}
use Rattle.cdl_decimal.specs.Counts.{line_upper}
use Rattle.cdl_decimal.proofs.NearLaws.{rounds_to}
use Rattle.cdl_decimal.proofs.real.line.Goals.{After-rounded}
use Rattle.cdl_decimal.proofs.real.line.Goals as goal

value : (c : After-rounded) → c.rounded.result ≡ in_range (near (line_upper c.args.x1 c.args.f1 c.args.x2 c.args.f2 c.args.x) (unsigned_abs (c.args.x2 -ℤ c.args.x1)))
value c = search rules

pub returns-then-x1-x2-clause-rounded : goal.returns-then-x1-x2-clause-rounded
returns-then-x1-x2-clause-rounded c h =
    let p : 0 < unsigned_abs (c.args.x2 -ℤ c.args.x1) = omega (arith, ints, h) in
    rounds_to (line_upper c.args.x1 c.args.f1 c.args.x2 c.args.f2 c.args.x) (unsigned_abs (c.args.x2 -ℤ c.args.x1)) c.rounded.result p (value c)
