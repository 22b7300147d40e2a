use Rattle.std.proofs.Common.{rules, ◌≡◌}
use Rattle.cdl_decimal.specs.Near.{in_integer_range}
use Rattle.cdl_decimal.specs.Counts.{floor_whole}
use Rattle.cdl_decimal.proofs.NearLaws.{floor_is}
use Rattle.cdl_decimal.proofs.real.Real.floor_integer.Goals.{After-narrow_integer}
use Rattle.cdl_decimal.proofs.real.Real.floor_integer.Goals as goal

value : (c : After-narrow_integer) → c.narrow_integer.result ≡ in_integer_range (floor_whole c.args.self)
value c = search rules

pub returns-clause-floor : goal.returns-clause-floor
returns-clause-floor c = (floor_whole c.args.self, floor_is c.args.self, value c)
