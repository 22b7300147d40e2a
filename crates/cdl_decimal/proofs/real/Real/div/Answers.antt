use Rattle.std.proofs.Common.{rules, ◌≡◌, ◌*ℤ◌, pos}
use Rattle.cdl_decimal.specs.Near.{near_signed, in_range}
use Rattle.cdl_decimal.proofs.NearLaws.{rounds_above, rounds_below}
use Rattle.cdl_decimal.proofs.real.Real.div.Goals.{After-narrow}
use Rattle.cdl_decimal.proofs.real.Real.div.Goals as goal

value : (c : After-narrow) → c.narrow.result ≡ in_range (near_signed (c.args.self *ℤ pos 1000000) c.args.b)
value c = search rules

pub returns-else-b-eq0-clause-rounded : goal.returns-else-b-eq0-clause-rounded
returns-else-b-eq0-clause-rounded c = rounds_above (c.args.self *ℤ pos 1000000) c.args.b c.narrow.result (value c)

pub returns-else-b-eq0-clause-rounded_below : goal.returns-else-b-eq0-clause-rounded_below
returns-else-b-eq0-clause-rounded_below c = rounds_below (c.args.self *ℤ pos 1000000) c.args.b c.narrow.result (value c)
