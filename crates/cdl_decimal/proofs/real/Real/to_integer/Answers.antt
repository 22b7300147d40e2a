use Rattle.std.proofs.Common.{rules, ◌≡◌}
use Rattle.cdl_decimal.specs.Near.{in_integer_range}
use Rattle.cdl_decimal.specs.Counts.{nearest_whole}
use Rattle.cdl_decimal.proofs.NearLaws.{nearest_whole_is}
use Rattle.cdl_decimal.proofs.real.Real.to_integer.Goals.{After-narrow_integer}
use Rattle.cdl_decimal.proofs.real.Real.to_integer.Goals as goal

value : (c : After-narrow_integer) → c.narrow_integer.result ≡ in_integer_range (nearest_whole c.args.self)
value c = search rules

pub returns-clause-nearest : goal.returns-clause-nearest
returns-clause-nearest c = (nearest_whole c.args.self, nearest_whole_is c.args.self, value c)
